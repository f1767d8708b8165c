-- The list call's answer in one number, which fits a word (`Reporting`, `Sizes`).
use Rattle.std.proofs.Common.{length}
use Rattle.calls.specs.Calls.{listed_returned}
use Rattle.c_reports.proofs.Sizes.{conflict_list_small}
use Rattle.c_reports.proofs.Reporting.{lists, listed_value}
use Rattle.c_reports.proofs.explain_conflict.Goals as goal

pub returns : goal.returns
returns c =
    let r = c.explain_conflict_within.result in
    let listed = c.explain_conflict_within.ensures in
    record {
      reports = lists r listed;
      small = rw (listed_value r) (conflict_list_small c.args.lim c.requires c.args.area.now _ (listed_returned r) c.args.sentence.0 (length c.args.list.now) listed.answer);
    }
