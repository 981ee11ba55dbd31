-- What is written of the characters so far is there.
use Rattle.std.specs.List.{flat_map}
use Rattle.mt_svg.specs.Adding.{Adds}
use Rattle.mt_svg.specs.XmlText.{escaped_char}
use Rattle.mt_svg.proofs.xml.append_escaped.Given as goal

abbrev pub invariant-loop-character : goal.invariant-loop-character
invariant-loop-character g l = Adds l.initial.text l.text (flat_map escaped_char l.yielded)
