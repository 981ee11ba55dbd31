use Rattle.std.proofs.Common.{◌/◌, sym, ap, ◌∙◌, subst, arith}
use Rattle.std.proofs.lemmas.Result.{IfOk-weaker}
use Rattle.mt_opcodec.specs.LogValue.{LogMap}
use Rattle.mt_opcodec.specs.Laws.{PairsAgree}
use Rattle.mt_opcodec.specs.Union.{Agree, union, union_all}
use Rattle.mt_opcodec.proofs.Halves.{all_apart, halves_are, halves_agree, pairs_first, pairs_second, last_alone}
use Rattle.mt_opcodec.proofs.join_all.+join_halves.Goals as goal

pub returns-in-Some-clause-ok : goal.returns-in-Some-clause-ok
returns-in-Some-clause-ok g t c = last_alone c.args.logs.items c.pop.new.self.items c.in-Some.log c.in-Some.ensures.items (omega (arith, c.if-len-le1.true, c.len.ensures, c.args.logs.ok.0))

pub join_halves-requires : goal.join_halves-requires
join_halves-requires g t c =
    let logs = c.args.logs.items in
    let cut = halves_are (c.len-half.result / 2) logs c.split_off.new.self.items c.in_ok-second.second.items c.in_ok-second.ensures.items c.in_ok-second.ensures.tail in
    λ κs lives. (omega (arith, c.if-len-le1.false, c.len-half.ensures, c.len.ensures, c.args.logs.ok.0, c.in_ok-second.ensures.len, c.in_ok-second.ensures.tail_len, c.split_off.new.self.ok.0, c.in_ok-second.second.ok.0), (lives, pairs_first c.split_off.new.self.items c.in_ok-second.second.items (subst PairsAgree (sym cut) c.requires.agree)))

pub join_halves-requires-2 : goal.join_halves-requires-2
join_halves-requires-2 g t c =
    let logs = c.args.logs.items in
    let cut = halves_are (c.len-half.result / 2) logs c.split_off.new.self.items c.in_ok-second.second.items c.in_ok-second.ensures.items c.in_ok-second.ensures.tail in
    λ κs lives. (omega (arith, c.if-len-le1.false, c.len-half.ensures, c.len.ensures, c.args.logs.ok.0, c.in_ok-second.ensures.len, c.in_ok-second.ensures.tail_len, c.split_off.new.self.ok.0, c.in_ok-second.second.ok.0), (lives, pairs_second c.split_off.new.self.items c.in_ok-second.second.items (subst PairsAgree (sym cut) c.requires.agree)))

pub join_agreeing-requires : goal.join_agreeing-requires
join_agreeing-requires g t c =
    let logs = c.args.logs.items in
    let first = c.split_off.new.self.items in
    let second = c.in_ok-second.second.items in
    let cut = halves_are (c.len-half.result / 2) logs first second c.in_ok-second.ensures.items c.in_ok-second.ensures.tail in
    record {
      agree = subst (λ (m : LogMap). Agree m c.in_ok-right.right) (sym c.in_ok-left.ensures.ok)
          (subst (λ (m : LogMap). Agree (union_all first) m) (sym c.in_ok-right.ensures.ok) (halves_agree first second (subst PairsAgree (sym cut) c.requires.agree)));
    }

pub returns-clause-ok : goal.returns-clause-ok
returns-clause-ok g t c =
    let logs = c.args.logs.items in
    let first = c.split_off.new.self.items in
    let second = c.in_ok-second.second.items in
    let cut = halves_are (c.len-half.result / 2) logs first second c.in_ok-second.ensures.items c.in_ok-second.ensures.tail in
    IfOk-weaker c.join_agreeing.result _ _
    (λ all is. is ∙ (λ i. union (c.in_ok-left.ensures.ok i) (c.in_ok-right.ensures.ok i)) ∙ sym (all_apart first second) ∙ ap union_all cut) c.join_agreeing.ensures.ok
