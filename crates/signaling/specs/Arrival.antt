-- What the line may do to an answer on its way to the box: "a sent answer may reach the box with status entries put at any places among its
-- entries" (02, CR 2). `Arrives` is the one relation between the octets that were sent and those that are given.
-- Assumes nothing.
use Rattle.std.specs.Prelude.{ℕ, ◌+◌, ◌*◌, ◌<◌, true, ◌≡◌, ◌⊎◌, List, ◌++◌, length, take, drop, Ok}
use Rattle.types.specs.declared.error_mode.ErrorEntryMode.TheVariants.{Terminator}
use Rattle.types.specs.declared.message_type.MessageType.TheVariants as message
use Rattle.control.specs.ASnd.{asnd_payload_at}
use Rattle.codec.specs.Frame.{kind_of}
use Rattle.error_entry.specs.Entry.{entry_length, entry_of}
use Rattle.status_response.specs.Fields.{front_length}

-- the octets are an ASnd frame, whatever its service
abbrev pub IsASnd : List ℕ → Type 0
IsASnd f = kind_of f ≡ Ok message.ASnd

-- where its entries begin, if it is a StatusResponse: behind the Ethernet header, the fields of the ASnd and the front of the StatusResponse
abbrev pub entries_at : ℕ
entries_at = asnd_payload_at + front_length

-- the octets of an entry: its mode is 1 to 3
pub record IsEntry (e : List ℕ) : Type 0 where
  pub size : length e ≡ entry_length
  pub mode : (entry_of e).entry_type.mode ≡ Terminator → ⊥

-- those of a status entry: "an entry with bit 15 set", "its mode is 1 to 3"; all else is free
pub record IsStatusEntry (e : List ℕ) : Type 0 where
  pub entry : IsEntry e
  pub status : (entry_of e).entry_type.is_status_entry ≡ true

-- "reading stops at mode 0 or with under 20 bytes left"
abbrev pub Ends : List ℕ → Type 0
Ends l = (length l < entry_length) ⊎ ((entry_of l).entry_type.mode ≡ Terminator)

-- What is sent behind the front, and what is given: each entry is kept, and status entries may stand before any of them and behind the last.
-- What ends the entries, and the filling behind it, may be other than it was sent: with entries put in, a frame of 60 octets needs less of it.
pub data Among : List ℕ → List ℕ → Type 0 where
  put : {l m : List ℕ} (e : List ℕ) → IsStatusEntry e → Among l m → Among l (e ++ m)
  keep : {l m : List ℕ} (e : List ℕ) → IsEntry e → Among l m → Among (e ++ l) (e ++ m)
  end : {l m : List ℕ} → Ends l → Ends m → Among l m

-- a whole frame: what stands in front of the entries is as it was sent
pub record Arrives (sent given : List ℕ) : Type 0 where
  pub front : List ℕ
  pub size : length front ≡ entries_at
  pub behind : List ℕ
  pub is_sent : sent ≡ front ++ behind
  pub arrived : List ℕ
  pub is_given : given ≡ front ++ arrived
  pub among : Among behind arrived

-- a frame with octets put in before its entry n, counted from 0, or behind the last
abbrev pub put_in : ℕ → List ℕ → List ℕ → List ℕ
put_in n e f = take (entries_at + entry_length * n) f ++ (e ++ drop (entries_at + entry_length * n) f)
