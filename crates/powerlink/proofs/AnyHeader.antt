-- Two calls, a section's and then the header's, are one that writes the whole frame.
-- Assumes nothing.
use Prim.Native.Nat.{ℕ, ◌+◌, ◌≤◌, ◌<◌}
use mathlib.Core.Path.{◌≡◌, refl, sym, ap, ◌∙◌}
use mathlib.Core.Bool.{Bool, true, false}
use mathlib.Core.Logic.{⊎_elim}
use mathlib.Core.List.{List, ◌++◌, append_assoc}
use native.Mathlib.Omega.{arith}
use lib.Dec.{leb, eqb}
use lib.ListN.{length, take, drop, length-append, length-take, length-drop, take-append-drop}
use lib.Seq.{drop_at, drop-drop, drop-append-le, length-take-le}
use borrow.Author.Tests.{le-leb, lt-leb}
use Rattle.section.proofs.Sections.{fits_behind}
use Rattle.section.proofs.CausesTell.{refused_number}
use Rattle.std.proofs.lemmas.Bool.{cases_lt}
use Rattle.std.specs.Prelude.{Result, Ok, Err}
use Rattle.types.specs.Codes.{pick}
use Rattle.types.specs.Header.{eth_bytes}
use Rattle.types.specs.RequestedServices.{requested_of}
use Rattle.types.specs.States.{state_of}
use Rattle.types.specs.declared.basic.EthernetHeader.{EthernetHeader}
use Rattle.types.specs.declared.hal.PowerlinkError.{PowerlinkError}
use Rattle.types.specs.declared.requested_service.RequestedServiceId.{RequestedServiceId}
use Rattle.types.specs.declared.states.NmtState.{NmtState}
use Rattle.services.specs.Table.{holds}
use Rattle.section.specs.Write.{write_answer, overwritten, Coded, octets, unnamed}
use Rattle.frame.specs.Write.{frame_bytes}
use Rattle.powerlink.specs.AnyHeader.{behind_header, after_section, after_header, target_left, length_told, TwoCalls, OneCall, AnyHeader, FiveBehindHeader}
use Rattle.powerlink.specs.Writing.{stated, requested, WritesTo, WritesCoded}
use Rattle.powerlink.proofs.Writers.{kept_octet, refuses_coded}

-- a call that fits, and one that does not: what it answers, leaves and tells
module _ (bs t : List ℕ) (r n n' : ℕ) (t' : List ℕ) (w : WritesTo bs r t t' n n') where
  fitting : length bs ≤ length t → (r ≡ 0) × ((t' ≡ bs ++ drop (length bs) t) × (n' ≡ length bs))
  unfolding write_answer overwritten
  fitting h =
      let e = le-leb (length bs) (length t) h in
      (w.cause ∙ rw e, (w.target ∙ rw e, w.written ∙ rw e))

  lacking : length t < length bs → (r ≡ 1) × (t' ≡ t)
  unfolding write_answer overwritten
  lacking h =
      let e = lt-leb (length bs) (length t) h in
      (w.cause ∙ rw e, w.target ∙ rw e)

  with_octet : (o : ℕ) → WritesCoded (octets bs) r t t' n n' o o
  with_octet o = record { cause = w.cause; target = w.target; written = w.written; octet = kept_octet bs t o }

-- what is written and what is refused, as a contract
module _ (bs t : List ℕ) where
  writes_all : (n : ℕ) → length bs ≤ length t → WritesTo bs 0 t (bs ++ drop (length bs) t) n (length bs)
  unfolding write_answer overwritten
  writes_all n h = let e = le-leb (length bs) (length t) h in record { cause = rw e; target = rw e; written = rw e }

  writes_none : (n : ℕ) → length t < length bs → WritesTo bs 1 t t n n
  unfolding write_answer overwritten
  writes_none n h = let e = lt-leb (length bs) (length t) h in record { cause = rw e; target = rw e; written = rw e }

eth_length : (h : EthernetHeader) → length (eth_bytes h) ≡ 14
unfolding eth_bytes
eth_length h = refl

-- the header's call is lent 14 octets at least
lent_length : (t u : List ℕ) (m : ℕ) → 14 ≤ length t → 14 ≤ m → 14 ≤ length (take m (after_section t u))
lent_length t u m room lent = simp (length-take, length-append) (omega (arith, length-take-le 14 t room))

module _ (h : EthernetHeader) (bs t u v : List ℕ) (m r q n n' k k' o o' : ℕ) (c : TwoCalls h (octets bs) t u v m r q n n' k k' o o') where
  part : WritesTo bs r (drop 14 t) u n n'
  part = record { cause = c.section.cause; target = c.section.target; written = c.section.written }

  same_octet : o' ≡ o
  same_octet = c.section.octet ∙ sym (kept_octet bs (drop 14 t) o)

  module _ (fits : length bs ≤ length (drop 14 t)) where
    section_done : (r ≡ 0) × ((u ≡ bs ++ drop (length bs) (drop 14 t)) × (n' ≡ length bs))
    section_done = fitting bs (drop 14 t) r n n' u part fits

    header_done : (q ≡ 0) × ((v ≡ eth_bytes h ++ drop (length (eth_bytes h)) (take m (after_section t u))) × (k' ≡ length (eth_bytes h)))
    header_done =
        let long = lent_length t u m (omega (arith, c.room)) c.lent in
        fitting (eth_bytes h) (take m (after_section t u)) q k k' v (c.header section_done.0) (omega (arith, eth_length h, long))

    frame_there : after_header m t u v ≡ (eth_bytes h ++ bs) ++ drop (length (eth_bytes h ++ bs)) t
    frame_there =
        let x : List ℕ = after_section t u in
        let l : length (eth_bytes h ++ bs) ≡ 14 + length bs = length-append (eth_bytes h) bs ∙ ap (λ (i : ℕ). i + length bs) (eth_length h) in
        ap (λ (y : List ℕ). y ++ drop m x) header_done.1.0
        ∙ ap (λ (i : ℕ). eth_bytes h ++ drop i (take m x) ++ drop m x) (eth_length h)
        ∙ append_assoc (eth_bytes h) (drop 14 (take m x)) (drop m x)
        ∙ ap (λ (y : List ℕ). eth_bytes h ++ y)
        (sym (drop-append-le 14 (take m x) (drop m x) (lent_length t u m (omega (arith, c.room)) c.lent))
        ∙ ap (drop 14) (take-append-drop m x)
        ∙ drop_at (take 14 t) u 14 (length-take-le 14 t (omega (arith, c.room)))
        ∙ section_done.1.0
        ∙ ap (λ (y : List ℕ). bs ++ y) (drop-drop (length bs) 14 t))
        ∙ sym (append_assoc (eth_bytes h) bs (drop (14 + length bs) t))
        ∙ ap (λ (i : ℕ). (eth_bytes h ++ bs) ++ drop i t) (sym l)

    frame_written : WritesCoded (octets (eth_bytes h ++ bs)) r t (target_left r m t u v) n (length_told r n n' k') o o'
    frame_written =
        let l : k' + n' ≡ length (eth_bytes h ++ bs) =
        rw (header_done.1.1, section_done.1.1) (sym (length-append (eth_bytes h) bs)) in
        let room : length (eth_bytes h ++ bs) ≤ length t =
        rw (length-append (eth_bytes h) bs, eth_length h) (omega (arith, length-drop 14 t, c.room)) in
        let w = writes_all (eth_bytes h ++ bs) t n room in
        rw (section_done.0, frame_there, same_octet)
        (record { cause = w.cause; target = w.target; written = omega (arith, l, w.written); octet = kept_octet (eth_bytes h ++ bs) t o })

  frame_refused : length (drop 14 t) < length bs
      → WritesCoded (octets (eth_bytes h ++ bs)) r t (target_left r m t u v) n (length_told r n n' k') o o'
  frame_refused lacks =
      let p = lacking bs (drop 14 t) r n n' u part lacks in
      let short : length t < length (eth_bytes h ++ bs) =
      rw (length-append (eth_bytes h) bs, eth_length h) (omega (arith, length-drop 14 t)) in
      rw (p.0, p.1, take-append-drop 14 t, same_octet)
      (with_octet (eth_bytes h ++ bs) t 1 n _ _ (writes_none (eth_bytes h ++ bs) t n short) o)

module _ (h : EthernetHeader) (t u v : List ℕ) (m r q n n' k k' o o' : ℕ) where
  whole : (w : Coded) → TwoCalls h w t u v m r q n n' k k' o o'
      → WritesCoded (behind_header h w) r t (target_left r m t u v) n (length_told r n n' k') o o'
  whole (octets bs) c =
      ⊎_elim (frame_refused h bs t u v m r q n n' k k' o o' c) (frame_written h bs t u v m r q n n' k k' o o' c)
      (cases_lt (length (drop 14 t)) (length bs))
  whole (unnamed j e) c =
      let s : leb j (length (drop 14 t)) ≡ leb (14 + j) (length t) = rw (length-drop 14 t) (fits_behind 14 j (length t) (omega (arith, c.room))) in
      let refuses : eqb r 0 ≡ false = rw c.section.cause (refused_number (leb j (length (drop 14 t))) e) in
      rw (refuses, c.section.target, take-append-drop 14 t)
      (refuses_coded (unnamed (14 + j) e) t r n o o' (14 + j) e refl (c.section.cause ∙ rw s, c.section.octet ∙ rw s))

  together : (w : Coded) → TwoCalls h w t u v m r q n n' k k' o o' → OneCall h w t u v m r q n n' k k' o o'
  together w c =
      record {
        writes = whole w c;
        header =
            λ e. (fitting (eth_bytes h) (take m (after_section t u)) q k k' v (c.header e)
            (omega (arith, eth_length h, lent_length t u m (omega (arith, c.room)) c.lent))).0;
      }

no_room_lem : (h : EthernetHeader) (w : Coded) (t : List ℕ) (n o : ℕ) → length t < 14 → WritesCoded (behind_header h w) 1 t t n n o o
no_room_lem h (octets bs) t n o short =
    let l : length t < length (eth_bytes h ++ bs) = rw (length-append (eth_bytes h) bs, eth_length h) (omega arith) in
    with_octet (eth_bytes h ++ bs) t 1 n _ _ (writes_none (eth_bytes h ++ bs) t n l) o
no_room_lem h (unnamed j e) t n o short =
    let l = lt-leb (14 + j) (length t) (omega arith) in
    refuses_coded (unnamed (14 + j) e) t 1 n o o (14 + j) e refl (rw l, rw l)

-- a code that is named gives the frame, and one that is not the same error
module _ (h : EthernetHeader) (n k : ℕ) (more : 14 + n ≡ k) where
  by_state : (a : Result NmtState PowerlinkError) (f g : NmtState → Coded) → ((s : NmtState) → behind_header h (f s) ≡ g s) → behind_header h (stated n a f) ≡ stated k a g
  by_state (Err x) f g e = ap (λ (i : ℕ). unnamed i x) more
  by_state (Ok s) f g e = e s

  by_request : (a : Result RequestedServiceId PowerlinkError) (f g : RequestedServiceId → Coded) → ((s : RequestedServiceId) → behind_header h (f s) ≡ g s)
      → behind_header h (requested n a f) ≡ requested k a g
  by_request (Err x) f g e = ap (λ (i : ℕ). unnamed i x) more
  by_request (Ok s) f g e = e s

by_service : (h : EthernetHeader) (b : Bool) (bs : List ℕ) (e : PowerlinkError)
    → behind_header h (pick b (octets bs) (unnamed (length bs) e)) ≡ pick b (octets (eth_bytes h ++ bs)) (unnamed (length (eth_bytes h ++ bs)) e)
by_service h true bs e = refl
by_service h false bs e = ap (λ (i : ℕ). unnamed i e) (sym (length-append (eth_bytes h) bs ∙ ap (λ (i : ℕ). i + length bs) (eth_length h)))

five : (h : EthernetHeader) → FiveBehindHeader h
unfolding frame_bytes
five h =
    record {
      soc = λ f. refl;
      preq = λ f payload. refl;
      pres = λ _ _ state _ _ _ payload. by_state h _ _ (omega arith) (state_of state) _ _ (λ s. refl);
      soa = λ _ _ state _ service _ _. by_state h _ _ refl (state_of state) _ _ (λ s. by_request h _ _ refl (requested_of service) _ _ (λ q. refl));
      asnd = λ services _ _ service payload. by_service h (holds services service) _ _;
    }

pub any_header : AnyHeader
any_header =
    record {
      calls = λ h w t u v m r q n n' k k' o o'. together h t u v m r q n n' k k' o o' w;
      plain = λ bs t t' r n n' o w. with_octet bs t r n n' t' w o;
      no_room = no_room_lem;
      five = five;
    }
