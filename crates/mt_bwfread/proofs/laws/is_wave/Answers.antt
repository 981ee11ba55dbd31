use Rattle.std.proofs.Common.{subst, List, ℕ}
use Rattle.mt_bwfread.specs.Riff.{AreChunks}
use Rattle.mt_bwfread.specs.Wave.{body_of, chunks_in}
use Rattle.mt_bwfread.proofs.laws.is_wave.Goals as goal

pub returns-clause-chunks : goal.returns-clause-chunks
returns-clause-chunks c =
    subst (λ (text : List ℕ). AreChunks (body_of text) (chunks_in text)) c.wave.view_is c.wave.invariant.chunks
