-- Two tables differ in what they read only by ASnd frames of services but StatusResponse, which one may refuse with 6 and the other read. So
-- whatever is told of a frame is the same under every table, or it is what is told of these two; and it is the same if these are alike.
-- Assumes nothing.
use Prim.Native.Nat.{ℕ}
use mathlib.Core.Bool.{Bool, true, false, true≢false}
use mathlib.Core.Logic.{◌⊎◌, inl, inr, ⊎_elim}
use mathlib.Core.Path.{◌≡◌, refl, sym, subst, ◌∙◌}
use mathlib.Core.List.{List}
use lib.Dec.{leb}
use lib.ListN.{length, get_or, drop}
use Rattle.std.specs.Prelude.{Result, Ok, Err}
use Rattle.types.specs.Codes.{need}
use Rattle.types.specs.Header.{eth_length}
use Rattle.types.specs.declared.hal.PowerlinkError.TheVariants.{BufferTooShort, InvalidServiceId}
use Rattle.types.specs.declared.message_type.MessageType.TheVariants as message
use Rattle.services.specs.Ids.{status_response}
use Rattle.services.specs.Table.{holds}
use Rattle.services.proofs.Tables.{tables_hold}
use Rattle.control.specs.ASnd.{asnd_fields_length}
use Rattle.frame.specs.declared.PowerlinkFrame.TheVariants.{ASnd}
use Rattle.codec.specs.ASnd.{asnd_of, read_asnd}
use Rattle.codec.specs.Frame.{kind_of, kind_answer, read_frame}
use Rattle.frame.specs.declared.PowerlinkFrame.{PowerlinkFrame}
use Rattle.types.specs.declared.hal.PowerlinkError.{PowerlinkError}
use Rattle.types.specs.declared.message_type.MessageType.{MessageType}

-- a section of another service than StatusResponse: refused with 6, and its octet ..
abbrev pub six : List ℕ → Result PowerlinkFrame PowerlinkError
six s = Err (InvalidServiceId (get_or s 3 0))

-- .. or read
abbrev pub other : List ℕ → Result PowerlinkFrame PowerlinkError
other s = Ok (ASnd (asnd_of s))

abbrev pub IsOther : List ℕ → Type 0
IsOther s = get_or s 3 0 ≡ status_response → ⊥

-- what is told of two readings: the same, or of each something of which P holds
abbrev pub AlikeOr : {A : Type 0} → (A → Type 0) → A → A → Type 0
AlikeOr P a b = (a ≡ b) ⊎ (P a × P b)

module _ {A : Type 0} (F : Result PowerlinkFrame PowerlinkError → A) (P : A → Type 0) (services others s : List ℕ) (p6 : IsOther s → P (F (six s))) (pRead : IsOther s → P (F (other s))) where
  asnd_any : AlikeOr P (F (read_asnd services s)) (F (read_asnd others s))
  unfolding read_asnd
  asnd_any = split (leb asnd_fields_length (length s)) (holds services (get_or s 3 0)) (holds others (get_or s 3 0)) refl refl
    where
      tested : Bool → Bool → Result PowerlinkFrame PowerlinkError
      tested l b = need l (Err BufferTooShort) (need b (six s) (other s))

      is_other : (t : List ℕ) → holds t (get_or s 3 0) ≡ false → IsOther s
      is_other t e q =
          absurd (true≢false (sym (tables_hold.status t) ∙ subst (λ (b : ℕ). holds t b ≡ false) q e))

      split : (l a b : Bool) → holds services (get_or s 3 0) ≡ a → holds others (get_or s 3 0) ≡ b → AlikeOr P (F (tested l a)) (F (tested l b))
      split false a b p q = inl refl
      split true true true p q = inl refl
      split true true false p q = let n = is_other others q in inr (pRead n, p6 n)
      split true false true p q = let n = is_other services p in inr (p6 n, pRead n)
      split true false false p q = inl refl

  kind_any : (k : Result MessageType PowerlinkError) → AlikeOr P (F (kind_answer services k s)) (F (kind_answer others k s))
  kind_any (Err e) = inl refl
  kind_any (Ok message.SoC) = inl refl
  kind_any (Ok message.PReq) = inl refl
  kind_any (Ok message.PRes) = inl refl
  kind_any (Ok message.SoA) = inl refl
  kind_any (Ok message.ASnd) = asnd_any

pub frames_told : {A : Type 0} (F : Result PowerlinkFrame PowerlinkError → A) (P : A → Type 0) (services others f : List ℕ)
    → (IsOther (drop eth_length f) → P (F (six (drop eth_length f)))) → (IsOther (drop eth_length f) → P (F (other (drop eth_length f))))
    → AlikeOr P (F (read_frame services f)) (F (read_frame others f))
unfolding read_frame
frames_told F P services others f p6 pRead = kind_any F P services others (drop eth_length f) p6 pRead (kind_of f)

pub frames_alike : {A : Type 0} (F : Result PowerlinkFrame PowerlinkError → A) → ((s : List ℕ) → IsOther s → F (six s) ≡ F (other s)) → (services others f : List ℕ)
    → F (read_frame services f) ≡ F (read_frame others f)
frames_alike {A} F same services others f =
    ⊎_elim
    (λ e. e)
    (λ p. p.0 ∙ sym p.1)
    (frames_told F (λ (a : A). a ≡ F (other (drop eth_length f))) services others f (same (drop eth_length f)) (λ n. refl))
