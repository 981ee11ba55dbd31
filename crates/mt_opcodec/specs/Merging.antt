-- Which operation of two logs comes next in their union.
use Rattle.std.specs.List.{AllByRecursion}
use Rattle.std.specs.Prelude.{◌≡◌, ◌≢◌, List, Option, Some, None}
use Rattle.std.specs.declared.cmp.Ordering.TheVariants.{Less}
use Rattle.mt_stamp.specs.Moment.{dot_cmp}
use Rattle.mt_op.specs.Operation.{Operation}
use Rattle.mt_op.specs.Dots.{op_dot}
use Rattle.mt_opcodec.specs.declared.joining.Next.{Next}
use Rattle.mt_opcodec.specs.declared.joining.Next.TheVariants.{Left, Right, Both, Conflict, End}

-- Of the next operation of each log: the one with the smaller dot, or the same one, or two of one dot.
abbrev pub ComesNext : Option Operation → Option Operation → Next → Type 0
ComesNext left right Left = (o : Operation) × ((left ≡ Some o) × ((p : Operation) → right ≡ Some p → dot_cmp (op_dot o) (op_dot p) ≡ Less))
ComesNext left right Right = (p : Operation) × ((right ≡ Some p) × ((o : Operation) → left ≡ Some o → dot_cmp (op_dot p) (op_dot o) ≡ Less))
ComesNext left right Both = (o : Operation) × ((left ≡ Some o) × (right ≡ Some o))
ComesNext left right Conflict = (o p : Operation) × ((left ≡ Some o) × (right ≡ Some p) × (op_dot o ≡ op_dot p) × (o ≢ p))
ComesNext left right End = (left ≡ None) × (right ≡ None)

-- every dot of the first is smaller than every dot of the second
abbrev pub EndsBefore : List Operation → List Operation → Type 0
EndsBefore left right = AllByRecursion (λ (o : Operation). AllByRecursion (λ (p : Operation). dot_cmp (op_dot o) (op_dot p) ≡ Less) right) left
