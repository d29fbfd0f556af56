-- A frame with any Ethernet header by two calls, as include/powerlink.h shows it: the call of a section, lent the target from octet 14 on,
-- and where it writes the call of the header, lent the target's front.
-- Assumes nothing.
use Rattle.std.specs.Prelude.{ℕ, ◌+◌, ◌≤◌, ◌<◌, ◌≡◌, List, [], ◌++◌, eqb, length, take, drop}
use Rattle.types.specs.CauseNumbers.{too_short}
use Rattle.types.specs.Codes.{pick}
use Rattle.types.specs.Header.{eth_length, eth_bytes}
use Rattle.types.specs.RequestedServices.{requested_of}
use Rattle.types.specs.States.{state_of}
use Rattle.types.specs.declared.basic.EthernetHeader.{EthernetHeader}
use Rattle.section.specs.Write.{min_frame, Coded, octets, unnamed}
use Rattle.control.specs.ASnd.{served}
use Rattle.control.specs.SoC.{soc_section}
use Rattle.control.specs.declared.soa.SoAFlags.{SoAFlags}
use Rattle.control.specs.declared.soc.SocFrame.{SocFrame}
use Rattle.poll.specs.PReq.{preq_section}
use Rattle.poll.specs.Poll.{poll_fields_length}
use Rattle.poll.specs.declared.preq.PReqFrame.{PReqFrame}
use Rattle.poll.specs.declared.pres.PResFlags.{PResFlags}
use Rattle.frame.specs.Write.{frame_bytes}
use Rattle.frame.specs.declared.PowerlinkFrame.TheVariants.{Soc, PReq, PRes, SoA, ASnd}
use Rattle.powerlink.specs.Given.{frame_needs, pres_given, pres_writing, soa_given, soa_writing, asnd_given, asnd_writing}
use Rattle.powerlink.specs.Writing.{stated, requested, WritesTo, WritesCoded}

-- a section behind a header: 14 octets more, or 14 more that are needed where a code names nothing
abbrev pub behind_header : EthernetHeader → Coded → Coded
behind_header h (octets bs) = octets (eth_bytes h ++ bs)
behind_header h (unnamed n e) = unnamed (eth_length + n) e

-- what the target t holds once the section's call has left u in the part that it was lent, and then the header's call v in the m octets
-- at the front
abbrev pub after_section : List ℕ → List ℕ → List ℕ
after_section t u = take eth_length t ++ u

abbrev pub after_header : ℕ → List ℕ → List ℕ → List ℕ → List ℕ
after_header m t u v = v ++ drop m (after_section t u)

-- and what the target holds and which length is told in the end: the header's call is made where the section's has answered 0
abbrev pub target_left : ℕ → ℕ → List ℕ → List ℕ → List ℕ → List ℕ
target_left r m t u v = pick (eqb r 0) (after_header m t u v) (after_section t u)

abbrev pub length_told : ℕ → ℕ → ℕ → ℕ → ℕ
length_told r n n' k' = pick (eqb r 0) (k' + n') n

-- the two calls, by their contracts: r and n' are what the section's call answers and tells, q and k' what the header's does
pub record TwoCalls (h : EthernetHeader) (w : Coded) (t u v : List ℕ) (m r q n n' k k' o o' : ℕ) : Type 0 where
  pub room : eth_length ≤ length t
  pub section : WritesCoded w r (drop eth_length t) u n n' o o'
  pub lent : eth_length ≤ m
  pub header : r ≡ 0 → WritesTo (eth_bytes h) q (take m (after_section t u)) v k k'

-- together they are one call that writes the section behind the header: all of it, k' + n' octets with what the target held behind them, or
-- the section's refusal and the target as it was
pub record OneCall (h : EthernetHeader) (w : Coded) (t u v : List ℕ) (m r q n n' k k' o o' : ℕ) : Type 0 where
  pub writes : WritesCoded (behind_header h w) r t (target_left r m t u v) n (length_told r n n' k') o o'
  -- where the section is written, so is the header
  pub header : r ≡ 0 → q ≡ 0

-- ---- the five by name: what `powerlink_serialize_soc` and the others are given, behind a header, is that frame

abbrev pub pres_frame : EthernetHeader → ℕ → ℕ → ℕ → PResFlags → ℕ → ℕ → List ℕ → Coded
pres_frame h destination source state flags version size payload =
    stated (frame_needs poll_fields_length payload) (state_of state)
    (λ s. octets (frame_bytes h (PRes (pres_given destination source s flags version size)) payload))

abbrev pub soa_frame : EthernetHeader → ℕ → ℕ → ℕ → SoAFlags → ℕ → ℕ → ℕ → Coded
soa_frame h destination source state flags service target version =
    stated min_frame (state_of state)
    (λ s. requested min_frame (requested_of service) (λ q. octets (frame_bytes h (SoA (soa_given destination source s flags q target version)) [])))

abbrev pub asnd_frame : List ℕ → EthernetHeader → ℕ → ℕ → ℕ → List ℕ → Coded
asnd_frame services h destination source service payload =
    served services (record { 0 = service }) (frame_bytes h (ASnd (asnd_given destination source service)) payload)

pub record FiveBehindHeader (h : EthernetHeader) : Type 0 where
  pub soc : (f : SocFrame) → behind_header h (octets (soc_section f)) ≡ octets (frame_bytes h (Soc f) [])
  pub preq : (f : PReqFrame) (payload : List ℕ) → behind_header h (octets (preq_section f payload)) ≡ octets (frame_bytes h (PReq f) payload)
  pub pres : (destination source state : ℕ) (flags : PResFlags) (version size : ℕ) (payload : List ℕ)
      → behind_header h (pres_writing destination source state flags version size payload) ≡ pres_frame h destination source state flags version size payload
  pub soa : (destination source state : ℕ) (flags : SoAFlags) (service target version : ℕ)
      → behind_header h (soa_writing destination source state flags service target version) ≡ soa_frame h destination source state flags service target version
  pub asnd : (services : List ℕ) (destination source service : ℕ) (payload : List ℕ)
      → behind_header h (asnd_writing services destination source service payload) ≡ asnd_frame services h destination source service payload

pub record AnyHeader : Type 0 where
  pub calls : (h : EthernetHeader) (w : Coded) (t u v : List ℕ) (m r q n n' k k' o o' : ℕ) → TwoCalls h w t u v m r q n n' k k' o o'
      → OneCall h w t u v m r q n n' k k' o o'
  -- a call that tells no octet, as those of SoC and PReq
  pub plain : (bs t t' : List ℕ) (r n n' o : ℕ) → WritesTo bs r t t' n n' → WritesCoded (octets bs) r t t' n n' o o
  -- a target of under 14 octets is too short for any frame, whatever its codes name: the caller answers 1 and makes no call
  pub no_room : (h : EthernetHeader) (w : Coded) (t : List ℕ) (n o : ℕ) → length t < eth_length → WritesCoded (behind_header h w) too_short t t n n o o
  pub five : (h : EthernetHeader) → FiveBehindHeader h
