use Rattle.std.proofs.Common.{◌<◌, ℕ, take, slice_index, ap, arith, to_z}
use Rattle.std.specs.Int.{w32}
use Rattle.mt_bwfread.proofs.Sides.{first_of, sample_at}
use Rattle.mt_bwfread.proofs.fours.four.Goals as goal

pub returns-clause-first : goal.returns-clause-first
returns-clause-first c =
    let xs = c.args.bytes.now in
    let f : (i : ℕ) → i < 16 → slice_index (take 16 xs) i < 256 = λ i lt. omega (arith, first_of xs i lt, c.type_inv.bytes i) in
    sample_at xs 0 _ (omega arith) f
    (ap (to_z w32) (omega (arith, f 0 (omega arith), f 1 (omega arith), f 2 (omega arith), f 3 (omega arith), f 4 (omega arith), f 5 (omega arith), f 6 (omega arith), f 7 (omega arith), f 8 (omega arith), f 9 (omega arith), f 10 (omega arith), f 11 (omega arith))))

pub returns-clause-second : goal.returns-clause-second
returns-clause-second c =
    let xs = c.args.bytes.now in
    let f : (i : ℕ) → i < 16 → slice_index (take 16 xs) i < 256 = λ i lt. omega (arith, first_of xs i lt, c.type_inv.bytes i) in
    sample_at xs 3 _ (omega arith) f
    (ap (to_z w32) (omega (arith, f 0 (omega arith), f 1 (omega arith), f 2 (omega arith), f 3 (omega arith), f 4 (omega arith), f 5 (omega arith), f 6 (omega arith), f 7 (omega arith), f 8 (omega arith), f 9 (omega arith), f 10 (omega arith), f 11 (omega arith))))

pub returns-clause-third : goal.returns-clause-third
returns-clause-third c =
    let xs = c.args.bytes.now in
    let f : (i : ℕ) → i < 16 → slice_index (take 16 xs) i < 256 = λ i lt. omega (arith, first_of xs i lt, c.type_inv.bytes i) in
    sample_at xs 6 _ (omega arith) f
    (ap (to_z w32) (omega (arith, f 0 (omega arith), f 1 (omega arith), f 2 (omega arith), f 3 (omega arith), f 4 (omega arith), f 5 (omega arith), f 6 (omega arith), f 7 (omega arith), f 8 (omega arith), f 9 (omega arith), f 10 (omega arith), f 11 (omega arith))))

pub returns-clause-fourth : goal.returns-clause-fourth
returns-clause-fourth c =
    let xs = c.args.bytes.now in
    let f : (i : ℕ) → i < 16 → slice_index (take 16 xs) i < 256 = λ i lt. omega (arith, first_of xs i lt, c.type_inv.bytes i) in
    sample_at xs 9 _ (omega arith) f
    (ap (to_z w32) (omega (arith, f 0 (omega arith), f 1 (omega arith), f 2 (omega arith), f 3 (omega arith), f 4 (omega arith), f 5 (omega arith), f 6 (omega arith), f 7 (omega arith), f 8 (omega arith), f 9 (omega arith), f 10 (omega arith), f 11 (omega arith))))
