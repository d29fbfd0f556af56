-- From the writes of a StatusResponse, each at its place, to all of its octets in one: entries, terminator, what stands in front.
-- Assumes nothing.
use Prim.Native.Nat.{ℕ, zero, suc, ◌+◌, ◌*◌, ◌≤◌, ◌<◌}
use mathlib.Core.Path.{◌≡◌, refl, sym, ap, ◌∙◌}
use mathlib.Core.Bool.{Bool, true, false}
use mathlib.Core.List.{List, [], ◌∷◌, ◌++◌, append_assoc, append-nil}
use native.Mathlib.Omega.{arith}
use native.Mathlib.Nat.{le_of_lt}
use lib.ListN.{length, take, drop, replicate, length-append, length-take, length-replicate}
use lib.Seq.{sets, sets-eq, take-suc, take-length, length-take-le, drop_at}
use Rattle.std.specs.Prelude.{Result, Ok, Err}
use Rattle.octets.proofs.Sets.{sets_append, sets_front}
use Rattle.types.specs.Codes.{pick}
use Rattle.types.specs.declared.hal.PowerlinkError.{PowerlinkError}
use Rattle.types.specs.declared.hal.PowerlinkError.TheVariants.{BufferTooShort}
use Rattle.section.specs.Write.{Writes}
use Rattle.section.proofs.Behind.{refused, written}
use Rattle.section.proofs.Sections.{refuses, writes}
use Rattle.error_entry.specs.Entry.{entry_bytes, terminator}
use Rattle.error_entry.specs.declared.ErrorEntry.{ErrorEntry}
use Rattle.status_response.specs.BitField.{field_bytes}
use Rattle.status_response.specs.Fields.{head_bytes}
use Rattle.status_response.specs.declared.bit_field.StaticErrorBitField.{StaticErrorBitField}
use Rattle.status_response.specs.declared.fields.StatusFields.{StatusFields}
use Rattle.status_response.specs.Parts.{entries_answer, entries_fit, entries_put, entry_at_place, terminated}
use Rattle.status_response.specs.Steps.{entries_bytes, status_bytes}
use Rattle.status_response.proofs.Places.{entry_length, fit_true, fit_false, put_length}

entries_append : (es fs : List ErrorEntry) → entries_bytes (es ++ fs) ≡ entries_bytes es ++ entries_bytes fs
entries_append [] fs = refl
entries_append (e ∷ es) fs = ap (λ (l : List ℕ). entry_bytes e ++ l) (entries_append es fs) ∙ sym (append_assoc (entry_bytes e) (entries_bytes es) (entries_bytes fs))

pub entries_length : (es : List ErrorEntry) → length (entries_bytes es) ≡ 20 * length es
entries_length [] = refl
entries_length (e ∷ es) = length-append (entry_bytes e) (entries_bytes es) ∙ omega (arith, entry_length e, entries_length es)

pub status_length_lem : (head : List ℕ) (es : List ErrorEntry) → length (status_bytes head es) ≡ length head + 20 * length es + 20
unfolding status_bytes
status_length_lem head es = simp (length-append, length-replicate) (omega (arith, entries_length es))

module _ (es : List ErrorEntry) (t : List ℕ) where
  -- the entries put one after the other are one write
  pub put_is : (i : ℕ) → i ≤ length es → entries_put es t i ≡ sets t 14 (entries_bytes (take i es))
  put_is zero h = refl
  put_is (suc i) h =
      let l : length (entries_bytes (take i es)) ≡ 20 * i = entries_length (take i es) ∙ omega (arith, length-take-le i es (le_of_lt h)) in
      rw (
        put_is i (le_of_lt h),
        take-suc es i terminator h,
        entries_append (take i es) (entry_at_place es i ∷ []),
        append-nil (entry_bytes (entry_at_place es i)),
        sets_append t 14 (entries_bytes (take i es)) (entry_bytes (entry_at_place es i)),
        l,
      )

  -- and with the terminator behind them
  list_is : 34 + 20 * length es ≤ length t
      → sets (entries_put es t (length es)) (14 + 20 * length es) (replicate 20 0) ≡ sets t 0 (status_bytes (take 14 t) es)
  unfolding status_bytes
  list_is h =
      let bs : List ℕ = entries_bytes es ++ replicate 20 0 in
      let l : length bs ≡ 20 * length es + 20 = length-append (entries_bytes es) (replicate 20 0) ∙ omega (arith, entries_length es, length-replicate {A = ℕ} 20 0) in
      let n : length (take 14 t) ≡ 14 = length-take-le 14 t (omega arith) in
      let a : length (take 14 t ++ bs) ≡ 14 + length bs = length-append (take 14 t) bs ∙ ap (λ (k : ℕ). k + length bs) n in
      ap (λ (s : List ℕ). sets s (14 + 20 * length es) (replicate 20 0))
      (put_is (length es) (omega arith) ∙ ap (λ (s : List ErrorEntry). sets t 14 (entries_bytes s)) (take-length es))
      ∙ ap (λ (k : ℕ). sets (sets t 14 (entries_bytes es)) (14 + k) (replicate 20 0)) (sym (entries_length es))
      ∙ sym (sets_append t 14 (entries_bytes es) (replicate 20 0))
      ∙ sets-eq bs t 14 (omega arith)
      ∙ ap (λ (k : ℕ). (take 14 t ++ bs) ++ drop k t) (sym a)
      ∙ sym (sets_front t (take 14 t ++ bs) (omega arith))
      ∙ ap (λ (s : List ℕ). sets t 0 s) (sym (append_assoc (take 14 t) (entries_bytes es) (replicate 20 0)))

  -- the answer and the target of a list that was written, if it fits
  pub list_writes : (r : Result ℕ PowerlinkError) (t₁ t₂ : List ℕ) → t₁ ≡ pick (entries_fit (length es) (length t)) (entries_put es t (length es)) t
      → r ≡ entries_answer (length es) (length t₁) → t₂ ≡ terminated (length es) t₁ → Writes (status_bytes (take 14 t) es) r t t₂
  list_writes r t₁ t₂ e₁ er e₂ = by_fit (entries_fit (length es) (length t)) refl
    where
      answers : entries_fit (length es) (length t) ≡ true → entries_answer (length es) (length t) ≡ Ok (34 + 20 * length es)
      answers f = rw f

      terminates : entries_fit (length es) (length t₁) ≡ true → terminated (length es) t₁ ≡ sets t₁ (14 + 20 * length es) (replicate 20 0)
      terminates f = rw f

      refuses_list : entries_fit (length es) (length t) ≡ false → entries_answer (length es) (length t) ≡ Err BufferTooShort
      refuses_list f = rw f

      stays : entries_fit (length es) (length t) ≡ false → terminated (length es) t ≡ t
      stays f = rw f

      by_fit : (b : Bool) → entries_fit (length es) (length t) ≡ b → Writes (status_bytes (take 14 t) es) r t t₂
      by_fit true f =
          let h : 34 + 20 * length es ≤ length t = fit_true (length es) (length t) f in
          let p : t₁ ≡ entries_put es t (length es) = rw f at e₁ in
          let k : length t₁ ≡ length t = ap length p ∙ put_length es t (length es) in
          let n : length (status_bytes (take 14 t) es) ≡ 34 + 20 * length es =
          status_length_lem (take 14 t) es ∙ omega (arith, length-take-le 14 t (omega arith)) in
          let a : r ≡ Ok (34 + 20 * length es) = er ∙ ap (entries_answer (length es)) k ∙ answers f in
          let o : t₂ ≡ sets t 0 (status_bytes (take 14 t) es) =
          e₂ ∙ terminates (ap (entries_fit (length es)) k ∙ f) ∙ ap (λ (s : List ℕ). sets s (14 + 20 * length es) (replicate 20 0)) p ∙ list_is h in
          rw (a, o)
          (writes (status_bytes (take 14 t) es) t (34 + 20 * length es) n h)
      by_fit false f =
          let h : length t < 34 + 20 * length es = fit_false (length es) (length t) f in
          let p : t₁ ≡ t = rw f at e₁ in
          let a : r ≡ Err BufferTooShort = er ∙ ap (λ (s : List ℕ). entries_answer (length es) (length s)) p ∙ refuses_list f in
          let o : t₂ ≡ t = e₂ ∙ ap (terminated (length es)) p ∙ stays f in
          rw (a, o)
          (refuses (status_bytes (take 14 t) es) t (omega (arith, status_length_lem (take 14 t) es, length-take 14 t)))

  -- a list that was refused is as it was
  head_none : (head : List ℕ) (e : PowerlinkError) (t₁ : List ℕ) → length head ≡ 14 → Writes (status_bytes (take 14 t) es) (Err e) t t₁
      → Writes (status_bytes head es) (Err e) t t₁
  unfolding status_bytes
  head_none head e t₁ n w =
      let p = refused (status_bytes (take 14 t) es) t (Err e) e t₁ w refl in
      rw (p.1.0, p.1.1)
      (refuses (status_bytes head es) t (omega (arith, p.0, status_length_lem (take 14 t) es, status_length_lem head es, length-take 14 t)))

  -- what stands in front is written last
  head_writes : (head : List ℕ) (m : ℕ) (t₁ : List ℕ) → length head ≡ 14 → Writes (status_bytes (take 14 t) es) (Ok m) t t₁
      → Writes (status_bytes head es) (Ok m) t (sets t₁ 0 head)
  unfolding status_bytes
  head_writes head m t₁ n w =
      let p = written (status_bytes (take 14 t) es) t (Ok m) m t₁ w refl in
      let bs : List ℕ = entries_bytes es ++ replicate 20 0 in
      let before : List ℕ = status_bytes (take 14 t) es in
      let k : length (take 14 t) ≡ 14 = length-take-le 14 t (omega (arith, p.0, status_length_lem (take 14 t) es, length-take 14 t)) in
      let l : length (status_bytes head es) ≡ length before = status_length_lem head es ∙ omega (arith, status_length_lem (take 14 t) es) in
      let o : t₁ ≡ take 14 t ++ (bs ++ drop (length before) t) =
      p.1.1 ∙ simp append_assoc in
      let d : drop 14 t₁ ≡ bs ++ drop (length before) t = ap (drop 14) o ∙ drop_at (take 14 t) (bs ++ drop (length before) t) 14 k in
      let q : length head ≤ length t₁ = omega (arith, ap length o, length-append (take 14 t) (bs ++ drop (length before) t)) in
      let g : head ++ (bs ++ drop (length (status_bytes head es)) t) ≡ status_bytes head es ++ drop (length (status_bytes head es)) t = simp append_assoc in
      let f : sets t₁ 0 head ≡ sets t 0 (status_bytes head es) =
      sets_front t₁ head q
      ∙ ap (λ (i : ℕ). head ++ drop i t₁) n
      ∙ ap (λ (s : List ℕ). head ++ s) d
      ∙ ap (λ (i : ℕ). head ++ (bs ++ drop i t)) (sym l)
      ∙ g
      ∙ sym (sets_front t (status_bytes head es) (omega (arith, p.0))) in
      rw f (writes (status_bytes head es) t m (l ∙ sym p.1.0) (omega (arith, p.0, p.1.0)))

-- a list, then what stands in front, or a list that was refused
module _ (f : StatusFields) (field : StaticErrorBitField) (es : List ErrorEntry) (t t₁ : List ℕ) where
  pub head_written : (n : ℕ) → Writes (status_bytes (take 14 t) es) (Ok n) t t₁
      → Writes (status_bytes (head_bytes f field) es) (Ok n) t (sets t₁ 0 (head_bytes f field))
  unfolding head_bytes field_bytes
  head_written n w = head_writes es t (head_bytes f field) n t₁ refl w

  pub head_refused : (e : PowerlinkError) → Writes (status_bytes (take 14 t) es) (Err e) t t₁ → Writes (status_bytes (head_bytes f field) es) (Err e) t t₁
  unfolding head_bytes field_bytes
  head_refused e w = head_none es t (head_bytes f field) e t₁ refl w
