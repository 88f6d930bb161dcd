-- Texts in which no comment stands (IEEE 1364-2005, 3.3).
-- A comment begins with two slashes, or with a slash and a star. A text in which neither stands has none.
use Rattle.std.specs.Prelude.{◌≡◌, ℕ, List, ◌++◌, codes}

-- nowhere in the text do these bytes stand one behind the other
abbrev pub StandsNowhere : List ℕ → List ℕ → Type 0
StandsNowhere bytes text = (front rest : List ℕ) → text ≡ front ++ (bytes ++ rest) → ⊥

pub record HasNoComment (text : List ℕ) : Type 0 where
  pub line : StandsNowhere (codes "//") text
  pub block : StandsNowhere (codes "/*") text
