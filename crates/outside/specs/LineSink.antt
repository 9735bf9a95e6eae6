-- A stream of lines as its users see it.
-- Stated by: outside, front_top, mcg6_front_top.
use Rattle.std.specs.Prelude.{◌≡◌, ◌<◌, ℕ, List, [], ◌++◌, Contains, take}
use Rattle.outside.specs.Faults.{MayCount}

-- the bytes that the runtime took, those that are held until a line ends, and the count of errors
pub record LineState : Type 0 where
  pub printed : List ℕ
  pub held : List ℕ
  pub faults : ℕ

-- a beginning of the bytes was printed, maybe all of them
pub record HasBegun (before now bytes : List ℕ) : Type 0 where
  pub done : List ℕ
  pub rest : List ℕ
  pub is : bytes ≡ done ++ rest
  pub printed : now ≡ before ++ done

-- a write of that piece that took so many bytes of it leads from the first state to the second: no
-- byte is left out, and none is held where a line ended. Where it failed, a beginning of what was
-- to be printed was
pub record HasSaid (before : LineState) (piece : List ℕ) (count : ℕ) (now : LineState) : Type 0 where
  pub passed : 0 < count → now.printed ++ now.held ≡ (before.printed ++ before.held) ++ take count piece
  pub line : 0 < count → Contains (take count piece) 10 → now.held ≡ []
  pub begun : HasBegun before.printed now.printed (before.held ++ piece)
  pub faults : MayCount before.faults now.faults
