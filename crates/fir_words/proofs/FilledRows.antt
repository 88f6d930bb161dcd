-- Rows that have values each where those are wanted, and that a use of an argument leaves them so.
use Rattle.std.proofs.Common.{◌≡◌, ◌+◌, ℕ, min, List, [], ◌∷◌, ◌++◌, ◌∙◌, Bool, true, false, refl, ap}
use Rattle.std.specs.Prelude.{fold, if◌then◌else◌, is_some, slice_get}
use Rattle.std.specs.Str.{bytes_eq}
use Rattle.std.proofs.lemmas.Slice.Eq.{bytes_eq-Decides}
use Rattle.clap.specs.Matches.{count_text}
use Rattle.clap.specs.Words.{Row, Rule, Text, first_of}
use Rattle.clap.specs.Walk.{action_of, at_row, count_of, counted, default_rows, has_row, more_values, new_count, reading_by, used, used_as, values_or_missing, with_count, with_default, with_values, without}
use Rattle.clap.specs.Takes.{is_given}
use Rattle.clap.specs.declared.builder.action.ArgAction.{ArgAction}
use Rattle.clap.specs.declared.builder.action.ArgAction.TheVariants.{Set, Append, SetTrue, SetFalse, Count}
use Rattle.clap.specs.declared.builder.value_parser.Reading.{Reading}
use Rattle.clap.specs.declared.parser.matches.ValueSource.{ValueSource}
use Rattle.clap.specs.declared.parser.matches.ValueSource.TheVariants.{CommandLine}

-- there is a value, where one is wanted
abbrev pub HasSome : Bool → List Text → Type 0
HasSome wanted [] = wanted ≡ false
HasSome wanted (v ∷ vs) = Unit {0}

pub has_more : (wanted : Bool) (xs : List Text) (v : Text) (vs : List Text) → HasSome wanted (xs ++ v ∷ vs)
has_more wanted [] v vs = tt
has_more wanted (x ∷ xs) v vs = tt

has_still : (wanted : Bool) (xs more : List Text) → HasSome wanted xs → HasSome wanted (xs ++ more)
has_still wanted [] [] has = has
has_still wanted [] (v ∷ vs) has = tt
has_still wanted (x ∷ xs) more has = tt

first_is : (wanted : Bool) (values : List Text) → wanted ≡ true → HasSome wanted values → is_some (slice_get values 0) ≡ true
first_is wanted [] is has = cc
first_is wanted (v ∷ vs) is has = refl

pub same_id : (a b : Text) → bytes_eq a b ≡ true → a ≡ b
same_id a b is = (bytes_eq-Decides a b).0 is

-- `wanted` says of which arguments the values are wanted
module _ (wanted : Text → Bool) where
  abbrev pub Filled : List Row → Type 0
  Filled [] = Unit {0}
  Filled (r ∷ rs) = HasSome (wanted r.id) r.values × Filled rs

  filled_append : (a b : List Row) → Filled a → Filled b → Filled (a ++ b)
  filled_append [] b p q = q
  filled_append (r ∷ rs) b p q = (p.0, filled_append rs b p.1 q)

  at_row_filled : (id : Text) (change : Row → List Row) (missing rows : List Row) → ((r : Row) → HasSome (wanted r.id) r.values → Filled (change r))
      → Filled missing → Filled rows → Filled (at_row id change missing rows)
  at_row_filled id change missing [] changed added f = added
  at_row_filled id change missing (r ∷ rs) changed added f = go (bytes_eq r.id id) (at_row_filled id change missing rs changed added f.1)
    where
      go : (b : Bool) → Filled (at_row id change missing rs) → Filled (if b then change r ++ rs else r ∷ at_row id change missing rs)
      go true rest = filled_append (change r) rs (changed r f.0) f.1
      go false rest = (f.0, rest)

  without_filled : (id : Text) (rows : List Row) → Filled rows → Filled (without id rows)
  without_filled id rows f = at_row_filled id (λ _. []) [] rows (λ r has. tt) tt f

  with_values_filled : (id : Text) (how : Reading) (s : ValueSource) (values : List Text) (rows : List Row) → HasSome (wanted id) values → Filled rows
      → Filled (with_values id how s values rows)
  with_values_filled id how s values rows has f =
      at_row_filled id (more_values s values) _ rows (λ r before. (has_still (wanted r.id) r.values values before, tt)) (has, tt) f

  with_count_filled : (id : Text) (how : Reading) (s : ValueSource) (n : ℕ) (rows : List Row) → Filled rows → Filled (with_count id how s n rows)
  with_count_filled id how s n rows f =
      at_row_filled id (new_count s n) _ rows (λ r before. (has_more (wanted r.id) r.values (count_text n) [], tt)) (tt, tt) f

  counted_filled : (id : Text) (how : Reading) (values : List Text) (rows : List Row) → Filled rows → Filled (counted id how values rows)
  counted_filled id how [] rows f = with_count_filled id how CommandLine (min (count_of id rows + 1) 255) (without id rows) (without_filled id rows f)
  counted_filled id how (v ∷ vs) rows f = with_values_filled id how _ (v ∷ vs) (without id rows) tt (without_filled id rows f)

  used_as_filled : (act : ArgAction) (id : Text) (how : Reading) (values : List Text) (rows : List Row) → HasSome (wanted id) values → Filled rows
      → Filled (used_as act id how values rows)
  used_as_filled Set id how values rows has f = with_values_filled id how _ values (without id rows) has (without_filled id rows f)
  used_as_filled SetTrue id how values rows has f = with_values_filled id how _ values (without id rows) has (without_filled id rows f)
  used_as_filled SetFalse id how values rows has f = with_values_filled id how _ values (without id rows) has (without_filled id rows f)
  used_as_filled Append id how values rows has f = with_values_filled id how _ values rows has f
  used_as_filled Count id how values rows has f = counted_filled id how values rows f
  used_as_filled _ id how values rows has f = f

  pub used_filled : (a : Rule) (values : List Text) (rows : List Row) → HasSome (wanted a.id) (values_or_missing a values) → Filled rows
      → Filled (used a values rows)
  used_filled a values rows has f = used_as_filled (action_of a) a.id (reading_by a) (values_or_missing a values) rows has f

  -- ---- defaults

  default_rows_filled : (id : Text) (how : Reading) (values : List Text) (rows : List Row) → Filled rows → Filled (default_rows id how values rows)
  default_rows_filled id how [] rows f = f
  default_rows_filled id how (v ∷ vs) rows f = with_values_filled id how _ (v ∷ vs) rows tt f

  with_default_filled : (a : Rule) (rows : List Row) → Filled rows → Filled (with_default rows a)
  with_default_filled a rows f = go (has_row a.id rows)
    where
      go : (b : Bool) → Filled (if b then rows else default_rows a.id (reading_by a) a.defaults rows)
      go true = f
      go false = default_rows_filled a.id (reading_by a) a.defaults rows f

  pub defaults_filled : (c : List Rule) (rows : List Row) → Filled rows → Filled (fold with_default rows c)
  defaults_filled [] rows f = f
  defaults_filled (a ∷ rest) rows f = defaults_filled rest (with_default rows a) (with_default_filled a rows f)

  -- what is given has a first value, where values are wanted
  pub given_has_first : (id : Text) (rows : List Row) → wanted id ≡ true → Filled rows → is_given id rows ≡ true → is_some (first_of id rows) ≡ true
  given_has_first id [] has f given = cc
  given_has_first id (r ∷ rs) has f given = go (bytes_eq r.id id) refl (given_has_first id rs has f.1)
    where
      go : (b : Bool) → bytes_eq r.id id ≡ b → (is_given id rs ≡ true → is_some (first_of id rs) ≡ true) → is_some (first_of id (r ∷ rs)) ≡ true
      go true is behind = rw is (first_is (wanted r.id) r.values (ap wanted (same_id r.id id is) ∙ has) f.0)
      go false is behind = rw is (behind (rw is at given))
