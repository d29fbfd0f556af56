-- A turn of the program: what is read behind the octets held, and what is kept of it.
-- Assumes nothing.
use Prim.Native.Nat.{ℕ, ◌+◌, ◌-◌, ◌≤◌, ◌<◌}
use mathlib.Core.Bool.{false}
use mathlib.Core.Path.{◌≡◌, refl, sym, ap, subst, ◌∙◌}
use mathlib.Core.List.{List, [], ◌++◌, append_assoc}
use native.Mathlib.Nat.{zero-add}
use native.Mathlib.Omega.{arith}
use lib.ListN.{length, take, drop, length-drop, length-append}
use lib.Seq.{paste, take-paste, take-add, drop_at, length-take-le}
use borrow.Rule.Slice.PartMut.{mid_of, put_mid, same_len_mid, mid_len, take_put}
use borrow.Author.Clash.{clash}
use Rattle.journal.proofs.Counts.{room_got, room_said}
use Rattle.std.specs.Prelude.{Some, Ok}
use Rattle.journal_records.specs.Listing.{listing, version1}
use Rattle.journal_records.specs.Parts.{text_from}
use Rattle.journal_records.specs.declared.listing.Phase.{Phase}
use Rattle.journal_records.specs.declared.listing.Phase.TheVariants.{Header}
use Rattle.journal.specs.Rest.{Stands, Goes, Left, Buffer, buffer_len, record_len}
use Rattle.journal.specs.Streams.{fresh, got_more}
use Rattle.journal.specs.declared.streams.Streams.{Streams}

-- what is held leaves room in the buffer
pub record_fits : record_len < buffer_len
unfolding version1
record_fits = omega arith

pub record_some : 0 < record_len
unfolding version1
record_some = omega arith

-- what is kept of the first n octets, from `at` on
kept_front : (text : List ℕ) (at n : ℕ) → at ≤ n → n ≤ length text → take (n - at) (paste text 0 (drop at text) (n - at)) ≡ drop at (take n text)
kept_front text at n h k =
    let e : n ≡ at + (n - at) = omega arith in
    ap (λ (j : ℕ). take j (paste text 0 (drop at text) (n - at))) (sym (zero-add (n - at)))
    ∙ take-paste text 0 (drop at text) (n - at) (omega arith) (omega (arith, length-drop at text))
    ∙ sym
    (ap (λ (j : ℕ). drop at (take j text)) e
    ∙ ap (drop at) (take-add at (n - at) text)
    ∙ drop_at (take at text) (take (n - at) (drop at text)) at (length-take-le at text (omega arith)))

-- what `list` left of the first n octets, moved to the front
module _ (text : List ℕ) (n : ℕ) {q : Phase} {before after : Streams} {at : ℕ} (G : Goes (take n text) before after q at) (h : n ≤ length text) where
  pub in_range : at ≤ n
  in_range = let w = G.within in omega (arith, length-take-le n text h)

  pub keeps : {m : ℕ} {text' : List ℕ} → m ≡ n - at → text' ≡ paste text 0 (drop at text) (n - at) → Left before after (Ok (Some (record { phase = q; at = m }))) text'
  keeps {m} {text'} em et = (
    record {
      stands =
          subst (λ (l : List ℕ). Stands after q l) (sym (ap (λ (k : ℕ). take k text') em ∙ ap (take (n - at)) et ∙ kept_front text at n in_range h))
          G.stands;
      few = let f = G.few in omega (arith, length-take-le n text h, in_range);
      more = G.more;
    },
    (G.ends, G.got),
  )

-- ---- a read of n octets into the buffer, behind those that are held

module _ (text part : List ℕ) (held n : ℕ) (size : Buffer text) (e : length part ≡ length (mid_of held (buffer_len - held) text)) (few : held < record_len) (within : n ≤ length part) where
  fits : held ≤ length text
  fits = omega (arith, record_fits, few, size)

  abbrev filled : List ℕ
  filled = put_mid held (buffer_len - held) text part

  abbrev got : List ℕ
  got = take n (drop held filled)

  pub read_within : held + n ≤ length filled
  read_within = omega (arith, same_len_mid held (buffer_len - held) text part e, e, fits, size, mid_len held buffer_len text (omega (arith, fits, size)))

  got_length : length got ≡ n
  got_length = length-take-le n (drop held filled) (omega (arith, length-drop held filled, read_within))

  all_held : take (held + n) filled ≡ take held text ++ got
  all_held = take-add held n filled ∙ ap (λ (l : List ℕ). l ++ got) (take_put held (buffer_len - held) text part fits)

  -- octets may follow those that were read before: these do
  pub stands_read : {p : Phase} {before read : Streams} → Stands before p (take held text) → before.ended ≡ false → read ≡ got_more before n
      → Stands read p (take (held + n) filled)
  stands_read {p} {before} {read} S goes er =
      record {
        good = ap (λ (x : Streams). x.failed) er ∙ S.good;
        input = S.input ++ got;
        read = omega (arith, length-append S.input got, got_length, S.read, ap (λ (x : Streams). x.got) er);
        text = S.text;
        said = S.said ∙ sym (ap (λ (x : Streams). x.said) er);
        due = λ rest l. ap listing (append_assoc S.input got rest)
            ∙ S.due (got ++ rest) (λ t. clash _ t goes)
            ∙ ap (λ (x : List ℕ). S.text ++ text_from p x) (sym (append_assoc (take held text) got rest) ∙ ap (λ (x : List ℕ). x ++ rest) (sym all_held));
      }

-- ---- the program's loop

-- nothing is read, and nothing said: all of the listing is due
pub at_start : {now : Streams} → now ≡ fresh → Stands now Header []
at_start {now} e =
    subst (λ (x : Streams). Stands x Header []) (sym e)
    (record { good = refl; input = []; read = refl; text = []; said = refl; due = λ rest l. refl })

-- what a turn needs of what it read
pub ruleset turn_laws = (record_fits, room_got, room_said, read_within, stands_read)
