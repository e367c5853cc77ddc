-- What the ports in memory are seen as.
use Rattle.std.specs.Prelude.{ℕ, List}

-- a source: the bytes not yet read, the most bytes a call, the numbers of the calls that fail, and
-- how many calls were made, how many failed and how many answered the end
pub record Reading : Type 0 where
  pub left : List ℕ
  pub piece : ℕ
  pub fail : List ℕ
  pub calls : ℕ
  pub faults : ℕ
  pub ends : ℕ

-- a source that never fails: the bytes not yet read, and how often it was at the end
pub record SureReading : Type 0 where
  pub left : List ℕ
  pub ends : ℕ

-- a sink: the bytes that it was given, how many more it takes, and how often it failed
pub record Writing : Type 0 where
  pub content : List ℕ
  pub room : ℕ
  pub faults : ℕ
