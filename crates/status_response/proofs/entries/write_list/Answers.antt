-- `entries::write_list` meets its contract: the entries where they fit, and the terminator behind them.
-- Assumes nothing.
use Rattle.std.proofs.Common.{◌≡◌, sym, ◌∙◌, length}
use Rattle.status_response.specs.Parts.{entries_fit, entries_put}
use Rattle.status_response.proofs.Places.{fit_true}
use Rattle.status_response.proofs.WriteLaws.{list_writes}
use Rattle.types.specs.Codes.{pick}
use Rattle.status_response.proofs.entries.write_list.Goals as goal
use Rattle.status_response.proofs.entries.write_list.Goals.{then-fits, else-fits}

pub write_entries-requires : goal.write_entries-requires
write_entries-requires c = fit_true (length c.args.entries.now) (length c.args.target.now) (sym c.fits.ensures ∙ c.if-fits.true)

pub returns : goal.returns
returns c =
    let es = c.args.entries.now in
    let t = c.args.target.now in
    let put : c.if-fits.target ≡ pick (entries_fit (length es) (length t)) (entries_put es t (length es)) t =
    elim c.if-fits.branch [
      | then-fits w ↦ rw (w.target-is, w.write_entries.ensures, sym c.fits.ensures ∙ w.if-fits.true)
      | else-fits w ↦ rw (w.target-is, sym c.fits.ensures ∙ w.if-fits.false)
    ] in
    list_writes es t c.finish.result c.if-fits.target c.finish.new.target put c.finish.ensures.0 c.finish.ensures.1
