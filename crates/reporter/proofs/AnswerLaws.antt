-- How an answer's frame is put together, and what an answer promises from it.
-- Assumes nothing.
use Prim.Native.Nat.{ℕ, ◌+◌, ◌-◌, ◌≤◌, ◌<◌}
use mathlib.Core.Path.{◌≡◌, refl, sym, ap, ◌∙◌}
use mathlib.Core.List.{List, ◌++◌, append_assoc}
use native.Mathlib.Nat.{zero-add}
use native.Mathlib.Omega.{arith}
use lib.ListN.{length, take, replicate, length-append, length-replicate}
use lib.Seq.{sets, length-take-le}
use Rattle.std.specs.Prelude.{Result, Ok, Err}
use Rattle.octets.proofs.Sets.{sets_append, sets_front}
use Rattle.types.specs.Header.{eth_bytes}
use Rattle.types.specs.declared.hal.PowerlinkError.{PowerlinkError}
use Rattle.types.specs.declared.hal.PowerlinkError.TheVariants.{BufferTooShort}
use Rattle.section.specs.Write.{padded, Writes}
use Rattle.section.proofs.Coded.{serializes}
use Rattle.section.proofs.Behind.{refused, written}
use Rattle.section.proofs.Sections.{refuses, writes}
use Rattle.control.specs.ASnd.{asnd_bytes, asnd_section}
use Rattle.types.specs.declared.basic.NewFrame.{NewFrame}
use Rattle.control.specs.declared.asnd.ASndFrame.{ASndFrame}
use Rattle.frame.specs.Write.{frame_bytes}
use Rattle.error_entry.specs.declared.ErrorEntry.{ErrorEntry}
use Rattle.status_response.specs.Fields.{head_bytes}
use Rattle.status_response.specs.Steps.{status_bytes}
use Rattle.status_response.specs.declared.fields.StatusFields.{StatusFields}
use Rattle.reporter.specs.Calls.{AnswerSizes, Answers}
use Rattle.records.proofs.RingLaws.{length_ring}
use Rattle.reporter.specs.Layout.{places, start_of, entry_in, head_of, carried_in, first_four, answer_bytes}
use Rattle.reporter.specs.Rules.{Head, batch_length, opened, status_fields, answer_payload, filled_payload, answer_asnd, answer_front, answer_frame, after_answer}
use Rattle.reporter.specs.declared.AnswerFields.{AnswerFields}
use Rattle.reporter.proofs.AnyTable.{any_answer}
use Rattle.reporter.proofs.Meaning.{carried_small, carried_batch, answer_size}

-- ---- zeros behind octets that were written

module _ (bs t : List ℕ) (m : ℕ) where
  abbrev filled : List ℕ
  filled = bs ++ replicate (m - length bs) 0

  filled_length : length filled ≡ length bs + (m - length bs)
  filled_length = simp (length-append, length-replicate)

  -- not even the smallest fits
  pub filled_short : length t < m → Writes filled (Err BufferTooShort) t t
  filled_short h = refuses filled t (omega (arith, filled_length))

  pub filled_refused : (e : PowerlinkError) (after : List ℕ) → Writes bs (Err e) t after → Writes filled (Err e) t after
  filled_refused e after w =
      let p = refused bs t (Err e) e after w refl in
      rw (p.1.0, p.1.1) (refuses filled t (omega (arith, p.0, filled_length)))

  pub filled_written : (n : ℕ) (after t₂ : List ℕ) → Writes bs (Ok n) t after → m ≤ length t → t₂ ≡ sets after n (replicate (m - n) 0)
      → Writes filled (Ok (n + (m - n))) t t₂
  filled_written n after t₂ w least e =
      let p = written bs t (Ok n) n after w refl in
      let b : n ≡ length bs = p.1.0 in
      let zs : List ℕ = replicate (m - length bs) 0 in
      let all : t₂ ≡ sets t 0 filled =
      e
      ∙ ap (λ (k : ℕ). sets after k (replicate (m - k) 0)) b
      ∙ ap (λ (l : List ℕ). sets l (length bs) zs) (p.1.1 ∙ sym (sets_front t bs p.0))
      ∙ ap (λ (k : ℕ). sets (sets t 0 bs) k zs) (sym (zero-add (length bs)))
      ∙ sym (sets_append t 0 bs zs) in
      rw all (writes filled t (n + (m - n)) (omega (arith, filled_length)) (omega (arith, p.0)))

-- ---- the parts of an answer

pub frame_parts : (f : AnswerFields) (h : Head) → answer_frame f h ≡ answer_front f h.id ++ filled_payload f h
unfolding answer_frame frame_bytes asnd_section padded
frame_parts f h =
    let e : List ℕ = eth_bytes (answer_asnd f h.id).eth_header in
    let a : List ℕ = asnd_bytes (answer_asnd f h.id).frame in
    let p : List ℕ = answer_payload f h in
    let l : 46 - length (a ++ p) ≡ 42 - length p = simp length-append (omega arith) in
    ap (λ (n : ℕ). e ++ ((a ++ p) ++ replicate n 0)) l ∙ (simp append_assoc)

pub front_length : (f : AnswerFields) (i : ℕ) → length (answer_front f i) ≡ 18
unfolding eth_bytes
front_length f i = simp length-append (omega arith)

-- 14 octets, and 4 behind them
pub front_put : (f : AnswerFields) (i : ℕ) (a : NewFrame ASndFrame) (t t₁ t₂ : List ℕ) → a ≡ answer_asnd f i → t₁ ≡ sets t 0 (eth_bytes a.eth_header)
    → t₂ ≡ sets t₁ 14 (asnd_bytes a.frame) → t₂ ≡ sets t 0 (answer_front f i)
unfolding eth_bytes
front_put f i a t t₁ t₂ ea e₁ e₂ =
    e₂ ∙ rw (e₁, ea) (sym (sets_append t 0 (eth_bytes (answer_asnd f i).eth_header) (asnd_bytes (answer_asnd f i).frame)))

module _ (f : AnswerFields) (s : List ℕ) where
  abbrev payload : List ℕ
  payload = answer_payload f (opened (head_of s))

  payload_is : (front : StatusFields) (four : List ErrorEntry) (n : ℕ) → front ≡ status_fields f (opened (head_of s)).en → four ≡ first_four s
      → n ≡ carried_in s → status_bytes (head_bytes front f.static_error_bit_field) (take n four) ≡ payload
  unfolding answer_payload
  payload_is front four n e₁ e₂ e₃ = rw (e₁, e₂, e₃, carried_batch s)

  module _ (four : List ErrorEntry) (n : ℕ) (ef : four ≡ first_four s) (en : n ≡ carried_in s) where
    pub carried_fits : n ≤ length four
    carried_fits = rw (ef, en, length_ring (entry_in s) places (start_of s) batch_length) (carried_small s)

    pub carried_taken : n ≡ length (take n four)
    carried_taken = sym (length-take-le n four carried_fits)

    pub payload_writes : (front : StatusFields) (t after : List ℕ) (r : Result ℕ PowerlinkError) → front ≡ status_fields f (opened (head_of s)).en
        → Writes (status_bytes (head_bytes front f.static_error_bit_field) (take n four)) r t after → Writes payload r t after
    payload_writes front t after r eh w = rw (payload_is front four n eh ef en) at w

  pub answers : (services : List ℕ) → AnswerSizes f → (r : Result ℕ PowerlinkError) (after t written : List ℕ)
      → Writes (answer_frame f (opened (head_of s))) r t written → head_of after ≡ after_answer r (head_of s) → after ≡ answer_bytes r s
      → Answers services f r s after t written
  answers services sizes r after t written w h b =
      record {
        writes = rw (any_answer services f (opened (head_of s))) (serializes _ t r written w);
        size = answer_size f (opened (head_of s));
        sizes = sizes;
        head = h;
        bytes = b;
      }
