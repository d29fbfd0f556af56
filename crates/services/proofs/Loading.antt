-- The answers of `load`, each from the tests that lead to it.
-- Assumes nothing.
use Prim.Native.Nat.{ℕ, ◌<◌}
use mathlib.Core.Bool.{Bool, true, false, not, true≢false}
use mathlib.Core.Path.{◌≡◌, refl, sym, ap, ◌∙◌}
use mathlib.Core.List.{List, [], ◌++◌}
use native.Mathlib.Omega.{arith}
use lib.ListN.{length, replicate}
use borrow.Author.Tests.{not-true, not-false, lt-leb, le-leb}
use Rattle.std.specs.Prelude.{Result, Ok, Err}
use Rattle.octets.specs.Mark.{is_marked}
use Rattle.octets.specs.Numbers.{le_at}
use Rattle.types.specs.CauseNumbers.{not_a_table, not_ascending, without_status_response}
use Rattle.types.specs.Causes.{row}
use Rattle.types.specs.Codes.{need}
use Rattle.services.specs.Ids.{status_response, is_in}
use Rattle.services.specs.Load.{table_start, is_table, ids_in, is_ascending, ids_answer, load_answer, load_cause, load_bytes, Loads}
use Rattle.services.specs.Load.{table_mark, TablesLoad}
use Rattle.services.specs.Table.{services_length, marked, table_of}
use Rattle.services.specs.declared.load.LoadError.TheVariants.{NotATable, NotAscending, WithoutStatusResponse}
use Rattle.services.proofs.Tables.{table_holds}
use Rattle.services.specs.declared.load.LoadError.{LoadError}

-- IDs that are loaded hold StatusResponse
loaded_two : (ids : List ℕ) → ids_answer ids ≡ Ok tt → is_in status_response ids ≡ true
unfolding ids_answer
loaded_two ids e = split (is_ascending ids) (is_in status_response ids) e
  where
    split : (a b : Bool)
        → ◌≡◌ {A = Result Unit LoadError} (need a (Err NotAscending) (need b (Err WithoutStatusResponse) (Ok tt))) (Ok tt)
        → b ≡ true
    split a true p = refl
    split true false p = cc
    split false false p = cc

-- the number of the answer, from the tests
row_of : (f : List ℕ)
    → load_cause (load_answer f)
    ≡ need (is_table f) (row not_a_table [])
    (need (is_ascending (ids_in f)) (row not_ascending [])
    (need (is_in status_response (ids_in f)) (row without_status_response []) (row 0 [])))
unfolding load_answer ids_answer
row_of f = split (is_table f) (is_ascending (ids_in f)) (is_in status_response (ids_in f))
  where
    split : (a b c : Bool)
        → load_cause (need a (Err NotATable) (need b (Err NotAscending) (need c (Err WithoutStatusResponse) (Ok tt))))
        ≡ need a (row not_a_table []) (need b (row not_ascending []) (need c (row without_status_response []) (row 0 [])))
    split false b c = refl
    split true false c = refl
    split true true false = refl
    split true true true = refl

-- ---- what `load` answers and leaves, from what its calls ensure: of the file, of the IDs s in it, and of the answer j to them

module _ (f services : List ℕ) {t : Bool} (is : t ≡ is_table f) where
  pub loads_none : {after : List ℕ} → not t ≡ true → after ≡ services → Loads f (Err NotATable) services after
  unfolding load_answer
  loads_none taken kept =
      let e : is_table f ≡ false = sym is ∙ not-true t taken in
      record {
        answer = rw e;
        cause = rw e;
        held = λ q b h. absurd (true≢false cc);
        bytes = kept;
      }

  module _ (left : not t ≡ false) {s : List ℕ} (part : s ≡ ids_in f) {j : Result Unit LoadError} (judged : j ≡ ids_answer s) where
    answered : j ≡ load_answer f
    unfolding load_answer
    answered = let e : is_table f ≡ true = sym is ∙ not-false t left in rw e (judged ∙ ap ids_answer part)

    pub loads_by : {r : Result Unit LoadError} {after : List ℕ} → j ≡ r → after ≡ load_bytes r f services → Loads f r services after
    loads_by {r} told kept =
        let e : r ≡ load_answer f = sym told ∙ answered in
        let two : r ≡ Ok tt → is_in status_response (ids_in f) ≡ true = λ q. loaded_two (ids_in f) (sym (judged ∙ ap ids_answer part) ∙ told ∙ q) in
        record {
          answer = e;
          cause = ap load_cause e ∙ row_of f;
          held = λ q b h. rw (kept ∙ ap (λ (x : Result Unit LoadError). load_bytes x f services) q) (table_holds b (ids_in f) h (two q));
          bytes = kept;
        }

    pub loads_new : {after : List ℕ} → j ≡ Ok tt → after ≡ marked (replicate services_length 0) s → Loads f (Ok tt) services after
    loads_new told new = loads_by told (new ∙ ap table_of part)

pub ruleset loads = (loads_none, loads_by, loads_new, refl)

-- ---- which files load

too_short : (f : List ℕ) → length f < table_start → load_answer f ≡ Err NotATable
unfolding load_answer is_table
too_short f h = rw (lt-leb table_start (length f) h)

-- behind the right mark and version all hangs on the IDs
behind_mark : (ids : List ℕ) → load_answer (table_mark ++ ids) ≡ ids_answer ids
unfolding load_answer is_table is_marked le_at
behind_mark ids = rw (le-leb table_start (length (table_mark ++ ids)) (omega arith))

mark_alone : load_answer table_mark ≡ Err WithoutStatusResponse
unfolding ids_answer is_ascending
mark_alone = behind_mark []

module _ (ids : List ℕ) (sorted : is_ascending ids ≡ true) (two : is_in status_response ids ≡ true) where
  good_loads : load_answer (table_mark ++ ids) ≡ Ok tt
  unfolding ids_answer
  good_loads = behind_mark ids ∙ rw (sorted, two)

  good_table : (services : List ℕ) → load_bytes (load_answer (table_mark ++ ids)) (table_mark ++ ids) services ≡ table_of ids
  good_table services = rw good_loads

pub tables_load : TablesLoad
unfolding is_ascending
tables_load =
    record {
      loads = good_loads;
      table = λ ids services sorted two. good_table ids sorted two services;
      twelve = good_loads _ refl refl;
      twelve_table = good_table _ refl refl;
      short = too_short;
      alone = mark_alone;
    }
