-- The names of the emitted text (IEEE 1364-2005, 3.7).
-- A leaf or an array takes its base name; where that is reserved or taken by one before it, the first free of that name
-- with `_0`, `_1` and so on behind it. The nets of nodes are `_n0`, `_n1` and so on, without the taken ones.
use Rattle.std.specs.Prelude.{◌≡◌, ℕ, ◌+◌, ◌<◌, ◌≤◌, List, [], ◌∷◌, ◌++◌, Bool, true, false, not, ◌&&◌, codes, decimal, MatchBool}
use Rattle.fir_base.specs.Words.{is_among}
use Rattle.ver_words.specs.Reserved.{is_reserved}

abbrev pub is_free : List (List ℕ) → List ℕ → Bool
is_free taken name = not (is_reserved name) && not (is_among taken name)

abbrev pub suffixed : List ℕ → ℕ → List ℕ
suffixed base k = base ++ codes "_" ++ decimal k

-- the first free of base_0, base_1 and so on
pub record IsFirstFree (taken : List (List ℕ)) (base name : List ℕ) : Type 0 where
  pub number : ℕ
  pub is : name ≡ suffixed base number
  pub free : is_free taken name ≡ true
  pub before : (k : ℕ) → k < number → is_free taken (suffixed base k) ≡ false

abbrev pub IsNameFor : List (List ℕ) → List ℕ → List ℕ → Type 0
IsNameFor taken base name = MatchBool (is_free taken base) (name ≡ base) (IsFirstFree taken base name)

-- the names for these bases, one after the other
abbrev pub AreNamed : List (List ℕ) → List (List ℕ) → List (List ℕ) → Type 0
AreNamed taken [] [] = Unit {0}
AreNamed taken (base ∷ bases) (name ∷ names) = IsNameFor taken base name × AreNamed (name ∷ taken) bases names
AreNamed taken _ _ = ⊥

abbrev pub inner_name : ℕ → List ℕ
inner_name k = codes "_n" ++ decimal k

-- the first inner name from that number on which is free: this one
pub record IsInner (taken : List (List ℕ)) (from number : ℕ) : Type 0 where
  pub low : from ≤ number
  pub free : is_free taken (inner_name number) ≡ true
  pub before : (k : ℕ) → from ≤ k → k < number → is_free taken (inner_name k) ≡ false

-- the inner names from that number on, one after the other
abbrev pub AreInner : List (List ℕ) → ℕ → List (List ℕ) → Type 0
AreInner taken from [] = Unit {0}
AreInner taken from (name ∷ names) = (k : ℕ) × IsInner taken from k × (name ≡ inner_name k) × AreInner taken (k + 1) names
