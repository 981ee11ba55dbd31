-- What the last digits are, and that it is no more than all.
use Rattle.std.proofs.Common.{◌≡◌, ◌-◌, ◌*◌, ◌/◌, ◌^◌, ◌≤◌, length, drop}
use Rattle.std.specs.Str.Parse.{digits_value}
use Rattle.text_labels.proofs.word.part_value.Given as goal

abbrev pub invariant-loop-index : goal.invariant-loop-index
invariant-loop-index l = record {
  value : l.part ≡ l.most * digits_value 10 (drop (length l.digits - l.index) l.digits) / 10 ^ l.index;
  small : l.part ≤ l.most;
}
