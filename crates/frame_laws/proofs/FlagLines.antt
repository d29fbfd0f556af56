-- The line "pr 7, rs 7: 3Fh" holds of PRes and of StatusResponse.
-- Assumes nothing.
use Prim.Native.Nat.{ℕ}
use mathlib.Core.Path.{◌≡◌}
use mathlib.Core.List.{List}
use lib.ListN.{get_or}
use Rattle.std.specs.Prelude.{Ok}
use Rattle.types.specs.PollFlags.{priority_in, poll_octet, priority_at, requests_at}
use Rattle.types.specs.declared.poll_flags.PRFlag.{PRFlag}
use Rattle.types.specs.declared.poll_flags.RSFlag.{RSFlag}
use Rattle.section.specs.Write.{padded}
use Rattle.poll.specs.PRes.{pres_section}
use Rattle.frame.specs.declared.PowerlinkFrame.{PowerlinkFrame}
use Rattle.frame.specs.declared.PowerlinkFrame.TheVariants.{Soc, PReq, PRes, SoA, ASnd}
use Rattle.codec.specs.Frame.{read_section}
use Rattle.codec.specs.PRes.{pres_flags_of}
use Rattle.status_response.specs.Fields.{head_bytes, read_fields}
use Rattle.status_response.specs.Steps.{status_bytes}
use Rattle.status_response.specs.declared.fields.StatusFields.{StatusFields}
use Rattle.frame_laws.specs.FlagLines.{AllSet, all_set_octet, pres_poll_at, status_poll_at, FlagLineHolds}
use Rattle.frame_laws.proofs.Passed.{by_tests}
use Rattle.frame_laws.proofs.StatusPassed.{status_passed}

written : (pr : PRFlag) (rs : RSFlag) → AllSet pr rs → poll_octet pr rs.0 ≡ all_set_octet
unfolding poll_octet
written pr rs a = rw (a.priority, a.requests)

read : (octet : ℕ) → octet ≡ all_set_octet → AllSet (priority_at octet) (requests_at octet)
unfolding priority_in
read octet e = record { priority = rw e; requests = rw e }

-- of the five kinds, PRes has the octet
abbrev OfPRes : List ℕ → PowerlinkFrame → Type 0
OfPRes s (Soc f) = Unit
OfPRes s (PReq f) = Unit
OfPRes s (PRes f) = get_or s pres_poll_at 0 ≡ all_set_octet → AllSet f.flags.pr f.flags.rs
OfPRes s (SoA f) = Unit
OfPRes s (ASnd f) = Unit

pres_read_lem : (services s : List ℕ) (f : PowerlinkFrame) → read_section services s ≡ Ok f → OfPRes s f
unfolding pres_flags_of
pres_read_lem services s =
    by_tests services s (OfPRes s)
    (record {
      soc = λ _ _. tt;
      preq = λ _ _ _. tt;
      pres = λ _ _ _ _ _ e. read (get_or s pres_poll_at 0) e;
      soa = λ _ _ _ _ _ _. tt;
      asnd = λ _ _ _. tt;
    })

status_read_lem : (s : List ℕ) (f : StatusFields) → read_fields s ≡ Ok f → get_or s status_poll_at 0 ≡ all_set_octet → AllSet f.pr f.rs
status_read_lem s f e q = rw (status_passed s f e).fields (read (get_or s status_poll_at 0) q)

pub flag_line_holds : FlagLineHolds
unfolding pres_section padded head_bytes status_bytes
flag_line_holds =
    record {
      pres_written = λ f payload a. written f.flags.pr f.flags.rs a;
      pres_read = λ services s f. pres_read_lem services s (PRes f);
      status_written = λ f field es a. written f.pr f.rs a;
      status_read = status_read_lem;
    }
