-- Which of two half-faces on an edge stands for it: an open one rather than a joined one, and of two of the same sort the lower.
use Rattle.std.specs.Prelude.{◌≡◌, ℕ, ◌≤◌, true, ◌⊎◌}
use Rattle.indexes.specs.declared.rule.Side.{Side}

-- The half-face x stands rather than g, or is g: it is open if g is, and where g is open if x is, x is not the higher.
-- X says that x is open, and G that g is.
pub record Rather (X G : Type 0) (x g : ℕ) : Type 0 where
  pub sort : G → X
  pub lower : (X → G) → x ≤ g

abbrev pub RatherSide : Side → Side → Type 0
RatherSide s t = Rather (s.is_open ≡ true) (t.is_open ≡ true) s.half_face t.half_face

-- r is the one of s and t that stands
pub record Stands (s t r : Side) : Type 0 where
  pub one : (r ≡ s) ⊎ (r ≡ t)
  pub first : RatherSide r s
  pub second : RatherSide r t
