-- The list call's answer in one number, which fits a word (`Reporting`, `Sizes`).
use Rattle.std.proofs.Common.{length, w64}
use mir.ValLaws.{to_z-of_z}
use Rattle.calls.specs.Calls.{listed_returned}
use Rattle.c_reports.proofs.Sizes.{explanation_small}
use Rattle.c_reports.proofs.Reporting.{lists, listed_value}
use Rattle.c_reports.proofs.explain.Goals as goal

pub returns : goal.returns
returns c =
    let r = c.explain_within.result in
    let listed = rw (to_z-of_z w64 c.args.literal c.ranges.literal) at c.explain_within.ensures in
    record {
      reports = lists r listed;
      small = rw (listed_value r) (explanation_small c.args.lim c.requires c.args.area.now _ (listed_returned r) c.args.literal (length c.args.list.now) listed.answer);
    }
