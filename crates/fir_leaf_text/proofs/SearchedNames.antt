-- A search for a name among names passes part after part of them.
use Rattle.std.proofs.Common.{◌≡◌, ℕ, ◌+◌, ◌<◌, List, [], ◌++◌, length, map, drop, get_or, Some, refl, sym, ap, ◌∙◌, append_assoc, length-append, arith}
use Rattle.std.specs.Prelude.{slice_get}
use Rattle.fir_ast.specs.declared.statements.Stmt.{Stmt}
use Rattle.fir_ast.specs.working.Views.{block_of, stmt_of}
use Rattle.fir_names.proofs.FirstMentions.{views_left}
use Rattle.fir_leaf.proofs.LeafPlaces.{get_left, get_right}
use Rattle.fir_leaf_text.specs.declared.declared_name.Search.{Search}
use Rattle.fir_leaf_text.specs.declared.declared_name.Search.TheVariants.{Found, Left}
use Rattle.fir_leaf_text.specs.working.DeclaredNames.{IsSearched, names_in, names_in_block}

-- where it goes on behind the first of two parts
get_on : (one two : List (List ℕ)) (position left : ℕ) (n : List ℕ) → position ≡ length one + left → slice_get two left ≡ Some n
    → slice_get (one ++ two) position ≡ Some n
get_on one two position left n passed there = ap (slice_get (one ++ two)) passed ∙ get_right one two (length one) left refl ∙ there

pub found_in_first : (one two : List (List ℕ)) (position : ℕ) (n : List ℕ) → slice_get one position ≡ Some n → slice_get (one ++ two) position ≡ Some n
found_in_first one two position n there = get_left one two position n there

pub searched_on : (one two : List (List ℕ)) (position left : ℕ) (r : Search) → position ≡ length one + left → IsSearched two left r
    → IsSearched (one ++ two) position r
searched_on one two position left (Found name) passed there = get_on one two position left name.now passed there
searched_on one two position left (Left behind) passed there = omega (arith, length-append one two)

-- of all names those that are left stand behind some, and so many less come before the one that is searched
pub record IsPassed (all rest : List (List ℕ)) (position left : ℕ) : Type 0 where
  pub before : List (List ℕ)
  pub joined : before ++ rest ≡ all
  pub counted : position ≡ length before + left

pub none_passed : (all : List (List ℕ)) (position : ℕ) → IsPassed all all position position
none_passed all position = record { before = []; joined = refl; counted = omega arith }

pub one_passed : (all one rest : List (List ℕ)) (position left behind : ℕ) → IsPassed all (one ++ rest) position left → left ≡ length one + behind
    → IsPassed all rest position behind
one_passed all one rest position left behind p passed = record {
  before = p.before ++ one;
  joined = append_assoc p.before one rest ∙ p.joined;
  counted = omega (arith, length-append p.before one, p.counted);
}

pub found_behind : (all one rest : List (List ℕ)) (position left : ℕ) (n : List ℕ) → IsPassed all (one ++ rest) position left → slice_get one left ≡ Some n
    → slice_get all position ≡ Some n
found_behind all one rest position left n p there =
    ap (λ names. slice_get names position) (sym p.joined)
    ∙ get_on p.before (one ++ rest) position left n p.counted (get_left one rest left n there)

pub all_passed : (all : List (List ℕ)) (position left : ℕ) → IsPassed all [] position left → position ≡ length all + left
all_passed all position left p = omega (arith, ap length p.joined, length-append p.before [], p.counted)

-- the names of statements
abbrev pub names_of_statements : List Stmt → List (List ℕ)
names_of_statements ss = names_in_block (block_of (map stmt_of ss))

pub names_left : (ss : List Stmt) (i : ℕ) (s : Stmt) → i < length ss → s ≡ get_or ss i s
    → names_of_statements (drop i ss) ≡ names_in (stmt_of s) ++ names_of_statements (drop (i + 1) ss)
names_left ss i s within at = ap (λ views. names_in_block (block_of views)) (views_left stmt_of ss i s within at)
