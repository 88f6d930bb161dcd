-- Reading past a limit that is kept where it counts.
use Rattle.std.proofs.Common.{◌≡◌, ℕ, ◌<◌, ◌≤◌, Bool, true, false, ◌&&◌, if◌then◌else◌, List, [], ◌∷◌, Ok, Err, refl}
use Rattle.std.proofs.lemmas.Bool.{lt-leb, le-ltb}
use Rattle.fir_ast.specs.declared.place.Place.{Place}
use Rattle.fir_ast.specs.declared.fault.FirFault.{FirFault}
use Rattle.fir_ast.specs.Circuits.{CircuitTree}
use Rattle.fir_parse.specs.Lexemes.{Terminal}
use Rattle.fir_parse.specs.Limits.{Limits, nesting}
use Rattle.fir_parse.specs.working.States.{State, Bound, limit_of, limit, opens, ends_form}
use Rattle.fir_parse.specs.working.Reading.{Outcome, read_on}

-- what is not passed where it counts
pub not_both : (c b : Bool) → (c ≡ true → b ≡ false) → (c && b) ≡ false
not_both true b h = h refl
not_both false b h = refl

-- a limit that counts is kept where reading goes on
pub not_passed : (c b : Bool) (f : FirFault) (o : Outcome) (x : CircuitTree) → (if c && b then Err f else o) ≡ Ok x → (c ≡ true → b ≡ false) × (o ≡ Ok x)
not_passed true true f o x h = absurd (cc)
not_passed true false f o x h = (λ e. refl, h)
not_passed false b f o x h = (λ e. absurd (cc), h)

module _ (limits : Limits) where
  pub limit_kept : (b : Bool) (l : Bound) (st : State) (end : Place) (ts : List Terminal) → (limits (limit_of l) ts ≡ true → b ≡ false)
      → read_on limits end (limit b l st) ts ≡ read_on limits end st ts
  unfolding read_on
  limit_kept b l st end [] h = rw (not_both (limits (limit_of l) []) b h) refl
  limit_kept b l st end (t ∷ ts) h = rw (not_both (limits (limit_of l) (t ∷ ts)) b h) refl

  -- a block or bracket that opens within the limit
  pub opened : (d : ℕ) (p : Place) (st : State) (end : Place) (ts : List Terminal) → (limits nesting ts ≡ true → d < 256)
      → read_on limits end (opens d p st) ts ≡ read_on limits end st ts
  opened d p st end ts h = limit_kept _ _ st end ts (λ c. lt-leb 256 d (h c))

  -- a form that ends within the limit
  pub ended : (h : ℕ) (p : Place) (st : State) (end : Place) (ts : List Terminal) → (limits nesting ts ≡ true → h ≤ 256)
      → read_on limits end (ends_form h p st) ts ≡ read_on limits end st ts
  ended h p st end ts le = limit_kept _ _ st end ts (λ c. le-ltb 256 h (le c))
