-- The frames, entries and fields that numbers give, and what writing them comes to. pr counts modulo 8.
-- Assumes nothing.
use Rattle.std.specs.Prelude.{ℕ, ◌+◌, ◌/◌, ◌%◌, max, Bool, List, [], eqb, length}
use Rattle.types.specs.Codes.{need}
use Rattle.types.specs.Header.{eth_length}
use Rattle.types.specs.Messages.{message_of}
use Rattle.types.specs.Modes.{mode_of}
use Rattle.types.specs.PollFlags.{priority_in}
use Rattle.types.specs.RequestedServices.{requested_of}
use Rattle.types.specs.States.{state_of}
use Rattle.types.specs.declared.basic.EthernetHeader.{EthernetHeader}
use Rattle.types.specs.declared.basic.MacAddress.{MacAddress}
use Rattle.types.specs.declared.common.NetTime.{NetTime}
use Rattle.types.specs.declared.hal.PowerlinkError.TheVariants.{BufferTooShort}
use Rattle.types.specs.declared.requested_service.RequestedServiceId.{RequestedServiceId}
use Rattle.types.specs.declared.states.NmtState.{NmtState}
use Rattle.section.specs.Write.{min_section, min_frame, Coded, octets, unnamed}
use Rattle.control.specs.ASnd.{new_asnd, asnd_section, served}
use Rattle.control.specs.SoA.{new_soa, soa_section}
use Rattle.control.specs.SoC.{new_soc}
use Rattle.control.specs.declared.asnd.ASndFrame.{ASndFrame}
use Rattle.control.specs.declared.soa.SoAFlags.{SoAFlags}
use Rattle.control.specs.declared.soa.SoAFrame.{SoAFrame}
use Rattle.control.specs.declared.soc.SocFlags.{SocFlags}
use Rattle.control.specs.declared.soc.SocFrame.{SocFrame}
use Rattle.poll.specs.PReq.{new_preq}
use Rattle.poll.specs.PRes.{new_pres, pres_section}
use Rattle.poll.specs.Poll.{poll_fields_length}
use Rattle.poll.specs.declared.preq.PReqFlags.{PReqFlags}
use Rattle.poll.specs.declared.preq.PReqFrame.{PReqFrame}
use Rattle.poll.specs.declared.pres.PResFlags.{PResFlags}
use Rattle.poll.specs.declared.pres.PResFrame.{PResFrame}
use Rattle.frame.specs.Write.{pl_header_bytes, frame_bytes}
use Rattle.frame.specs.declared.PowerlinkFrame.TheVariants.{Soc, PReq, PRes, SoA, ASnd}
use Rattle.error_entry.specs.Entry.{entry_length}
use Rattle.status_response.specs.BitField.{field_of}
use Rattle.status_response.specs.Given.{entries_given}
use Rattle.status_response.specs.Fields.{head_bytes}
use Rattle.status_response.specs.Steps.{status_bytes, status_length}
use Rattle.status_response.specs.declared.fields.StatusFields.{StatusFields}
pub use Rattle.types.specs.Nodes.{node}
pub use Rattle.c_values.specs.Values.{time, entry_with}
use Rattle.powerlink.specs.Writing.{WritesEntry, typed, stated, requested}

abbrev pub mac : List ℕ → MacAddress
mac bs = record { 0 = bs }

-- ---- sections

abbrev pub soc_flags_given : Bool → Bool → SocFlags
soc_flags_given mc ps = record { mc = mc; ps = ps }

abbrev pub soc_given : ℕ → ℕ → Bool → Bool → ℕ → ℕ → ℕ → SocFrame
soc_given destination source mc ps s ns relative =
    record {
      destination = node destination;
      source = node source;
      flags = soc_flags_given mc ps;
      net_time = time s ns;
      relative_time = record { 0 = relative };
    }

abbrev pub preq_flags_given : Bool → Bool → Bool → PReqFlags
preq_flags_given ms ea rd = record { ms = ms; ea = ea; rd = rd }

abbrev pub preq_given : ℕ → ℕ → PReqFlags → ℕ → ℕ → PReqFrame
preq_given destination source flags version size =
    record {
      destination = node destination;
      source = node source;
      flags = flags;
      pdo_version = record { 0 = version };
      payload_size = size;
    }

abbrev pub pres_flags_given : Bool → Bool → Bool → ℕ → ℕ → PResFlags
pres_flags_given ms en rd pr rs = record { ms = ms; en = en; rd = rd; pr = priority_in pr; rs = record { 0 = rs } }

abbrev pub pres_given : ℕ → ℕ → NmtState → PResFlags → ℕ → ℕ → PResFrame
pres_given destination source state flags version size =
    record {
      destination = node destination;
      source = node source;
      nmt_state = state;
      flags = flags;
      pdo_version = record { 0 = version };
      payload_size = size;
    }

abbrev pub soa_flags_given : Bool → Bool → SoAFlags
soa_flags_given ea er = record { ea = ea; er = er }

abbrev pub soa_given : ℕ → ℕ → NmtState → SoAFlags → RequestedServiceId → ℕ → ℕ → SoAFrame
soa_given destination source state flags service target version =
    record {
      destination = node destination;
      source = node source;
      nmt_state = state;
      flags = flags;
      req_service_id = service;
      target_node_id = node target;
      epl_version = record { 0 = version };
    }

abbrev pub asnd_given : ℕ → ℕ → ℕ → ASndFrame
asnd_given destination source service =
    record { destination = node destination; source = node source; service_id = record { 0 = service } }

-- the octets that a section needs, and those of a frame: the fields with the payload, or the smallest size
abbrev pub section_needs : ℕ → List ℕ → ℕ
section_needs fields payload = max min_section (fields + length payload)

abbrev pub frame_needs : ℕ → List ℕ → ℕ
frame_needs fields payload = max min_frame (eth_length + fields + length payload)

abbrev pub pres_writing : ℕ → ℕ → ℕ → PResFlags → ℕ → ℕ → List ℕ → Coded
pres_writing destination source state flags version size payload =
    stated (section_needs poll_fields_length payload) (state_of state)
    (λ s. octets (pres_section (pres_given destination source s flags version size) payload))

abbrev pub soa_writing : ℕ → ℕ → ℕ → SoAFlags → ℕ → ℕ → ℕ → Coded
soa_writing destination source state flags service target version =
    stated min_section (state_of state)
    (λ s. requested min_section (requested_of service) (λ q. octets (soa_section (soa_given destination source s flags q target version))))

abbrev pub asnd_writing : List ℕ → ℕ → ℕ → ℕ → List ℕ → Coded
asnd_writing services destination source service payload =
    served services (record { 0 = service }) (asnd_section (asnd_given destination source service) payload)

-- ---- headers

abbrev pub eth_given : List ℕ → List ℕ → ℕ → EthernetHeader
eth_given destination source ether = record { destination_mac = mac destination; source_mac = mac source; ether_type = ether }

abbrev pub pl_header_writing : ℕ → ℕ → ℕ → Coded
pl_header_writing message destination source =
    typed 3 (message_of message) (λ m. octets (pl_header_bytes m (node destination) (node source)))

-- ---- whole frames, as each kind's `new` makes them

abbrev pub new_soc_frame : List ℕ → SocFlags → NetTime → ℕ → List ℕ
new_soc_frame from flags net relative =
    let n = new_soc (mac from) flags net (record { 0 = relative }) in frame_bytes n.eth_header (Soc n.frame) []

abbrev pub new_preq_frame : List ℕ → List ℕ → ℕ → PReqFlags → ℕ → List ℕ → List ℕ
new_preq_frame from to target flags version payload =
    let n = new_preq (mac from) (mac to) (node target) flags (record { 0 = version }) (length payload) in
    frame_bytes n.eth_header (PReq n.frame) payload

abbrev pub new_pres_writing : List ℕ → ℕ → ℕ → PResFlags → ℕ → List ℕ → Coded
new_pres_writing from source state flags version payload =
    stated (frame_needs poll_fields_length payload) (state_of state)
    (λ s.
    let n = new_pres (mac from) (node source) s flags (record { 0 = version }) (length payload) in
    octets (frame_bytes n.eth_header (PRes n.frame) payload))

abbrev pub new_soa_writing : List ℕ → ℕ → SoAFlags → ℕ → ℕ → ℕ → Coded
new_soa_writing from state flags service target version =
    stated min_frame (state_of state)
    (λ s.
    requested min_frame (requested_of service)
    (λ q.
    let n = new_soa (mac from) s flags q (node target) (record { 0 = version }) in
    octets (frame_bytes n.eth_header (SoA n.frame) [])))

abbrev pub new_asnd_writing : List ℕ → List ℕ → List ℕ → ℕ → ℕ → ℕ → List ℕ → Coded
new_asnd_writing services from to target source service payload =
    let n = new_asnd (mac from) (mac to) (node target) (node source) (record { 0 = service }) in
    served services (record { 0 = service }) (frame_bytes n.eth_header (ASnd n.frame) payload)

-- ---- StatusResponse

-- the entry whose mode a number names
abbrev pub EntryWrites : Bool → Bool → ℕ → ℕ → ℕ → NetTime → ℕ → ℕ → List ℕ → List ℕ → ℕ → ℕ → Type 0
EntryWrites status queue mode profile code stamp information r t t' n n' =
    WritesEntry (λ m. entry_with status queue m profile code stamp information) (mode_of mode) r t t' n n'

abbrev pub fields_given : Bool → Bool → ℕ → ℕ → NmtState → StatusFields
fields_given en ec pr rs state =
    record { en_flag = en; ec_flag = ec; pr = priority_in pr; rs = record { 0 = rs }; nmt_state = state }

-- octets that are no whole entries are an input that is too short: cause 1, whatever the target and the state are
abbrev pub status_writing : Bool → Bool → ℕ → ℕ → ℕ → List ℕ → List ℕ → Coded
status_writing en ec pr rs state field entries =
    let n = status_length (length entries / entry_length) in
    need (eqb (length entries % entry_length) 0) (unnamed n BufferTooShort)
    (stated n (state_of state) (λ s. octets (status_bytes (head_bytes (fields_given en ec pr rs s) (field_of field)) (entries_given entries))))
