-- The steps of a search from inits, and what comes of one.
use Rattle.std.specs.Prelude.{◌≡◌, ℕ, ◌≤◌, [], ◌∷◌, ◌++◌, ◌⊎◌, length, slice_get, slice_set, Bool, true, false, Option, Some, None}
use Rattle.fir_net.specs.declared.net.FlatNet.{FlatNet}
use Rattle.fir_net.specs.declared.reads.Read.{Read}
use Rattle.fir_net.specs.declared.reads.Read.TheVariants as read
use Rattle.fir_work.specs.working.Numbers.{place}
use Rattle.fir_inits.specs.declared.search.Origin.{Origin}
use Rattle.fir_inits.specs.declared.search.Search.{Search}
use Rattle.fir_inits.specs.working.Searched.{ends, HasEnd, IsIdle, IsMet, Keeps, Knows, looks_left}

-- it was met before
pub record IsOld (net : FlatNet) (old new : Search) (v : Read) : Type 0 where
  pub mark : slice_get old.marks.items (place net v) ≡ Some true
  pub same : new ≡ old

-- a leaf is looked at later than a node
abbrev pub IsQueued : Read → ℕ → Search → Search → Type 0
IsQueued (read.Leaf k) i old new = (new.near.items ≡ old.near.items) × (new.far.items ≡ old.far.items ++ i ∷ [])
IsQueued (read.Node k) i old new = (new.near.items ≡ old.near.items ++ i ∷ []) × (new.far.items ≡ old.far.items)

-- it is new
pub record IsNew (net : FlatNet) (old new : Search) (v : Read) (o : Origin) : Type 0 where
  pub mark : slice_get old.marks.items (place net v) ≡ Some false
  pub marks : new.marks.items ≡ slice_set old.marks.items (place net v) true
  pub met : new.met.items ≡ old.met.items ++ record { read = v; origin = o } ∷ []

-- it was met; whether the search ends there
abbrev pub Meets : FlatNet → Search → Search → Read → Origin → Bool → Type 0
Meets net old new v o true = IsNew net old new v o × (ends net v ≡ true)
Meets net old new v o false = IsOld net old new v ⊎ (IsNew net old new v o × (ends net v ≡ false) × IsQueued v (length old.met.items) old new)

-- one is taken to be looked at, from those that stand behind one leaf more if no others are left
pub record IsTaken (old new : Search) (i : ℕ) : Type 0 where
  pub marks : new.marks.items ≡ old.marks.items
  pub met : new.met.items ≡ old.met.items
  pub from :
      ((old.near.items ≡ new.near.items ++ i ∷ []) × (new.far.items ≡ old.far.items))
      ⊎ ((old.near.items ≡ []) × (old.far.items ≡ new.near.items ++ i ∷ []) × (new.far.items ≡ []))

-- none is left to be looked at
pub record IsThrough (old new : Search) : Type 0 where
  pub marks : new.marks.items ≡ old.marks.items
  pub met : new.met.items ≡ old.met.items
  pub old_near : old.near.items ≡ []
  pub old_far : old.far.items ≡ []
  pub near : new.near.items ≡ []
  pub far : new.far.items ≡ []

abbrev pub Takes : Search → Search → Option ℕ → Type 0
Takes old new None = IsThrough old new
Takes old new (Some i) = IsTaken old new i

-- the search goes on
pub record GoesOn (net : FlatNet) (open_ : Option ℕ) (old new : Search) : Type 0 where
  pub knows : Knows net open_ new
  pub keeps : Keeps old new
  pub fewer : looks_left new ≤ looks_left old

-- it ends, or goes on with nothing open
abbrev pub Opens : FlatNet → Search → Search → Bool → Type 0
Opens net old new true = HasEnd net new
Opens net old new false = GoesOn net None old new

-- it ends, or all that hangs on the init is met
pub record IsSearched (net : FlatNet) (old new : Search) (init : Read) : Type 0 where
  pub idle : IsIdle net new
  pub keeps : Keeps old new
  pub met : IsMet new.met.items init

abbrev pub Finds : FlatNet → Search → Search → Read → Bool → Type 0
Finds net old new init true = HasEnd net new
Finds net old new init false = IsSearched net old new init
