-- A record: the cases of its tests, its length, and how it is put.
-- Assumes nothing.
use Prim.Native.Nat.{ℕ, suc, ◌-◌, ◌≤◌, ◌<◌}
use mathlib.Core.Bool.{Bool, true, false, true≢false}
use mathlib.Core.Path.{◌≡◌, refl, ap, ◌∙◌}
use mathlib.Core.List.{List, [], ◌∷◌}
use native.Mathlib.Omega.{arith}
use lib.Dec.{leb}
use lib.ListN.{length, drop, set, length-drop}
use lib.Seq.{sets, set_comm, length-take-le}
use borrow.Rule.Slice.PartMut.{mid_of, put_mid}
use borrow.Author.Tests.{le-leb, lt-leb, leb-true, leb-false}
use Rattle.std.specs.Prelude.{Result, Ok, Err}
use Rattle.octets.proofs.Sets.{sets_front}
use Rattle.types.specs.declared.NodeId.{NodeId}
use Rattle.section.specs.Write.{Writes}
use Rattle.error_entry.specs.Entry.{entry_bytes}
use Rattle.error_entry.specs.declared.ErrorEntry.{ErrorEntry}
use Rattle.error_entry.proofs.Places.{writes_sets}
use Rattle.records.proofs.PutLaws.{sets_rest}
use Rattle.records.proofs.RecordLaws.{bytes_length}
use Rattle.journal_records.specs.Record.{record_bytes, valid_record, WritesRecord}
use Rattle.journal_records.specs.declared.JournalError.TheVariants.{BufferTooShort, RecordInvalid}
use Rattle.types.specs.declared.hal.PowerlinkError.{PowerlinkError}

module _ (node : ℕ) (e : ErrorEntry) where
  pub valid_id : valid_record node e ≡ true → node ≤ 239
  unfolding valid_record
  valid_id h = by_test (leb node 239) refl
    where
      by_test : (b : Bool) → leb node 239 ≡ b → node ≤ 239
      by_test true t = leb-true node 239 t
      by_test false t =
          let f : false ≡ valid_record node e = rw (le-leb 1 node (omega (arith, leb-false node 239 t)), t) in
          absurd (true≢false cc)

  pub record_length : length (record_bytes node e) ≡ 21
  unfolding record_bytes
  record_length = rw (bytes_length e)

-- a store in front of a copy may come after it
pub set_sets : (l : List ℕ) (i j v : ℕ) (vs : List ℕ) → i < j → set (sets l j vs) i v ≡ sets (set l i v) j vs
set_sets l i j v [] h = refl
set_sets l i j v (u ∷ us) h = set_sets (set l j u) i (suc j) v us (omega arith) ∙ rw (set_comm l j i u v (λ e. omega (arith, e)))

module _ (node : NodeId) (e : ErrorEntry) (t : List ℕ) where
  pub record_short : length t < 21 → WritesRecord node e (Err BufferTooShort) t t
  record_short h = let f = lt-leb 21 (length t) h in record { answer = rw f; cause = rw f; holds = refl }

  module _ (long : 21 ≤ length t) where
    pub record_bad : valid_record node.0 e ≡ false → WritesRecord node e (Err RecordInvalid) t t
    record_bad h =
        let f = le-leb 21 (length t) long in
        record { answer = rw (f, h); cause = rw (f, h); holds = refl }

    pub record_written : valid_record node.0 e ≡ true → WritesRecord node e (Ok 21) t (sets t 0 (record_bytes node.0 e))
    record_written h =
        let f = le-leb 21 (length t) long in
        let k = record_length node.0 e in
        record {
          answer = rw (f, h);
          cause = rw (f, h);
          holds = sets_front t (record_bytes node.0 e) (omega arith) ∙ rw k;
        }

    -- the entry is put behind the ID's place, and then the ID
    pub record_put : (r : Result ℕ PowerlinkError) (part : List ℕ) → valid_record node.0 e ≡ true → Writes (entry_bytes e) r (mid_of 1 (length t - 1) t) part
        → WritesRecord node e (Ok 21) t (set (put_mid 1 (length t - 1) t part) 0 node.0)
    unfolding record_bytes
    record_put r part h w =
        let l : length (mid_of 1 (length t - 1) t) ≡ length t - 1 = length-take-le (length t - 1) (drop 1 t) (simp length-drop (omega arith)) in
        let p : part ≡ sets (mid_of 1 (length t - 1) t) 0 (entry_bytes e) =
        writes_sets (entry_bytes e) (mid_of 1 (length t - 1) t) r part w (omega (arith, bytes_length e)) in
        let q : set (put_mid 1 (length t - 1) t part) 0 node.0 ≡ sets t 0 (record_bytes node.0 e) =
        ap (λ (l : List ℕ). set (put_mid 1 (length t - 1) t l) 0 node.0) p
        ∙ ap (λ (l : List ℕ). set l 0 node.0) (sets_rest 1 t (entry_bytes e) (omega arith))
        ∙ set_sets t 0 1 node.0 (entry_bytes e) (omega arith) in
        rw q (record_written h)
