-- What files and sinks show: the meanings of the traits `Files` and `Sink`, and what each answer of a call says of them.
use Rattle.std.specs.Prelude.{◌≡◌, ◌⊎◌, ℕ, ◌+◌, ◌-◌, ◌^◌, ◌≤◌, min, List, [], ◌++◌, Bool, Option, option_map}

-- which names may be asked; what a file of a name holds, where that is told; the bytes taken since the last read began; how often a call failed
pub record FilesSeen : Type 0 where
  pub may : List ℕ → Bool
  pub told : List ℕ → Option (List ℕ)
  pub taken : ℕ
  pub faults : ℕ

-- what a sink holds, where that is told, and how often a call failed
pub record SinkSeen : Type 0 where
  pub held : Option (List ℕ)
  pub faults : ℕ

-- a count rose, or stands at the end of its type
abbrev pub Rose : ℕ → ℕ → Type 0
Rose before now = min (before + 1) (2 ^ 64 - 1) ≤ now

-- a count of bytes shows at least n, or stands at the end of its type
abbrev pub AtLeast : ℕ → ℕ → Type 0
AtLeast n count = min n (2 ^ 64 - 1) ≤ count

-- the held bytes grew by a piece
abbrev pub Grew : SinkSeen → SinkSeen → List ℕ → Type 0
Grew old new piece = new.held ≡ option_map (λ held. held ++ piece) old.held

-- a sink holds what it held
abbrev pub Kept : SinkSeen → SinkSeen → Type 0
Kept old new = Grew old new []

-- a sink grew by the front of a piece
abbrev pub GrewByFront : SinkSeen → SinkSeen → List ℕ → Type 0
GrewByFront old new piece = (front : List ℕ) × (back : List ℕ) × (piece ≡ front ++ back) × Grew old new front

-- a piece was put to a sink: it grew by all of it, or it failed in the call and grew by a front
abbrev pub Tried : SinkSeen → SinkSeen → List ℕ → Type 0
Tried old new piece = Grew old new piece ⊎ (Rose old.faults new.faults × GrewByFront old new piece)
