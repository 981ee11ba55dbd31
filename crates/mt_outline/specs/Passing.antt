-- A file on its way.
use Rattle.std.specs.Prelude.{◌≡◌, ℕ, ◌-◌, List, ◌++◌, length, drop, Option, MatchOption}
use Rattle.std.specs.Io.KnownBytes.{Consumes}
use Rattle.sha2.specs.Sha256.{sha256}
use Rattle.mt_latch.specs.Latch.{Latched}
use Rattle.mt_digests.specs.Pieces.{Holds}
use Rattle.mt_outline.specs.declared.passing.Passing.{Passing}

module _ {A : Type 0} where
  -- These bytes have come: those behind the ones to skip are kept, and all are hashed, or end the message that has this digest.
  pub record Passed (old new : Passing A) (digest : Option (List ℕ)) (bytes : List ℕ) : Type 0 where
    pub kept : new.kept.items ≡ old.kept.items ++ drop old.skip bytes
    pub skip : new.skip ≡ old.skip - length bytes
    pub hashed : (m : List ℕ) → Holds old.hashing m → MatchOption digest (Holds new.hashing (m ++ bytes)) (λ d. d ≡ sha256 (m ++ bytes))

  -- some bytes of a reader have come so
  pub record Passes (before after : Option (List ℕ)) (old new : Passing A) (digest : Option (List ℕ)) : Type 0 where
    pub bytes : List ℕ
    pub consumed : Consumes before after bytes
    pub passed : Passed old new digest bytes

  -- the same of the reader in a latch
  abbrev pub Takes : {R : Type 0} → (R → Option (List ℕ)) → Latched R → Latched R → Passing A → Passing A → Option (List ℕ) → Type 0
  Takes remaining before after old new digest = Passes (remaining before.inner) (remaining after.inner) old new digest
