-- The leaves of two types that meet in a connect (FIRRTL spec, "Connects", "Partial Connects"): fields of one name, and elements up to the shorter length. A
-- flipped field is driven the other way. For `<=`, whose types are equivalent, these are all leaves.
use Rattle.std.specs.Prelude.{List, [], ◌∷◌, ◌++◌, min, ◌==◌, Bool, true, false, if◌then◌else◌, Option, Some, None}
use Rattle.fir_meaning.specs.TypeLeaves.{turned}
use Rattle.fir_meaning.specs.WidthExpressions.{Width}
use Rattle.fir_meaning.specs.SizedTypes.{Sized, scalar, sized_bundle, sized_vector, SizedFields, no_sized_fields, sized_field, sized_named}

-- the widths of two leaves that meet: of the one that is driven, and of the one that drives it
pub record Match : Type 0 where
  pub driven : Width
  pub driver : Width

-- the right one is driven where the direction is turned
abbrev pub match_of : Bool → Width → Width → Match
match_of false left right = record { driven = left; driver = right }
match_of true left right = record { driven = right; driver = left }

-- with the type of a field that the other bundle may have too
abbrev pub where_met : (Sized → List Match) → Option Sized → List Match
where_met of_both None = []
where_met of_both (Some t) = of_both t

abbrev mutual
  pub matches : Bool → Sized → Sized → List Match
  matches turn (scalar s v) (scalar t w) = match_of turn v w ∷ []
  matches turn (sized_bundle fs) (sized_bundle gs) = field_matches turn fs gs
  matches turn (sized_vector t n) (sized_vector u m) = if min n m == 0 then [] else matches turn t u
  matches turn _ _ = []

  pub field_matches : Bool → SizedFields → SizedFields → List Match
  field_matches turn no_sized_fields gs = []
  field_matches turn (sized_field p flip x begins t rest) gs =
      where_met (λ u. matches (turned turn flip) t u) (sized_named x gs) ++ field_matches turn rest gs
