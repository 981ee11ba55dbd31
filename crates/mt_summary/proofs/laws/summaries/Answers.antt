use Rattle.std.proofs.Common.{None, sym, ◌∙◌}
use Rattle.mt_summary.specs.Summary.{summary_of, IsSummary}
use Rattle.mt_summary.proofs.Rising.{is_summary}
use Rattle.mt_summary.proofs.Covering.{exact}
use Rattle.mt_summary.proofs.Unique.{same_summary}
use Rattle.mt_summary.proofs.laws.summaries.Goals as goal

pub returns : goal.returns
returns g c =
    let set = c.args.log.now in
    let is : IsSummary (summary_of set) = is_summary set c.runs.ensures.logged in
    record {
      is = is;
      exact = exact set c.runs.ensures.logged c.runs.ensures.whole;
      only = λ other rise same. same_summary None other (summary_of set) rise is (λ dot. same dot ∙ sym (exact set c.runs.ensures.logged c.runs.ensures.whole dot));
    }
