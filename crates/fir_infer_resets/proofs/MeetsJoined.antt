-- What meets, one behind the other.
use Rattle.std.proofs.Common.{◌≡◌, ℕ, ◌+◌, List, [], ◌∷◌, ◌++◌, length, Result, Ok, Err, Vec, Global, sym, ap, subst, ◌∙◌, append_assoc}
use Rattle.std.specs.Prelude.{OnOk}
use Rattle.std.proofs.lemmas.List.{append-nil, length_push}
use Rattle.fir_ast.specs.Types.{DataType}
use Rattle.fir_ast.specs.Statements.{PlacedName, Statement}
use Rattle.fir_meaning.specs.Components.{Component}
use Rattle.fir_meaning.specs.Visibility.{Before, declaration_at, with_declaration}
use Rattle.fir_types.specs.working.Notes.{Note}
use Rattle.fir_infer_resets.specs.declared.meet.Meet.{Meet}
use Rattle.fir_infer_resets.specs.declared.meets.Walk.{Walk}
use Rattle.fir_infer_resets.specs.working.Meetings.{Meeting}
use Rattle.fir_infer_resets.specs.working.Meets.{AreMeets, IsMeet, Meets}
use Rattle.fir_infer_resets.specs.working.Passes.{Passes, PassesStatement}

are_joined : (ts : List DataType) (a b : List Meet) (m n : List Meeting) → AreMeets ts a m → AreMeets ts b n → AreMeets ts (a ++ b) (m ++ n)
are_joined ts [] b [] n h k = k
are_joined ts [] b (x ∷ m) n h k = absurd h
are_joined ts (x ∷ a) b [] n h k = absurd h
are_joined ts (x ∷ a) b (y ∷ m) n h k = (h.0, are_joined ts a b m n h.1 k)

-- nothing meets; and one after the other
pub meets_none : (ts : List DataType) (rest : List Note) (n : ℕ) (old new : Walk) → Passes ts rest old new → old.declared ≡ n → Meets ts rest n [] old new
meets_none ts rest n old new p same =
    record { ahead = p.ahead; declared = p.declared ∙ same; more = []; grown = p.meets ∙ sym (append-nil old.meets.items); are = tt }

pub meets_then : (ts : List DataType) (a b : List Note) (k n : ℕ) (one two : List Meeting) (first second third : Walk) → Meets ts a k one first second
    → Meets ts b n two second third → Meets ts b n (one ++ two) first third
meets_then ts a b k n one two first second third x y = record {
  ahead = y.ahead;
  declared = y.declared;
  more = x.more ++ y.more;
  grown = y.grown ∙ ap (λ ms. ms ++ y.more) x.grown ∙ append_assoc first.meets.items x.more y.more;
  are = are_joined ts x.more y.more one two x.are y.are;
}

-- behind what is passed
pub meets_passed : (ts : List DataType) (a b : List Note) (n : ℕ) (meant : List Meeting) (first second third : Walk) → Passes ts a first second
    → Meets ts b n meant second third → Meets ts b n meant first third
meets_passed ts a b n meant first second third p x =
    record { ahead = x.ahead; declared = x.declared; more = x.more; grown = x.grown ∙ ap (λ ms. ms ++ x.more) p.meets; are = x.are }

-- something is declared
pub one_more : (before : Before) (n : PlacedName) (c : Component) (declared : ℕ) → declared ≡ length before.declared
    → declared + 1 ≡ length (with_declaration before n c).declared
one_more before n c declared same = ap (λ k. k + 1) same ∙ sym (length_push before.declared (declaration_at before n c))

-- the same statement
pub passes_by : {A E : Type 0} (old new : Walk) (r : Result A E) (s t : Statement) → s ≡ t → PassesStatement t old new r → PassesStatement s old new r
passes_by old new r s t same h = subst (λ u. PassesStatement u old new r) (sym same) h

-- behind what is declared
pub declared_behind : {A E : Type 0} (ts : List DataType) (rest : List Note) (before : Before) (n : PlacedName) (c : Component) (meant : List Meeting) (old middle new : Walk) (r : Result A E)
    → Meets ts rest (length before.declared) meant old middle → OnOk r (new ≡ record middle { declared = middle.declared + 1 })
    → OnOk r (Meets ts rest (length (with_declaration before n c).declared) meant old new)
declared_behind ts rest before n c meant old middle new (Ok x) h is =
    subst (Meets ts rest (length (with_declaration before n c).declared) meant old) (sym is)
    (record { ahead = h.ahead; declared = one_more before n c middle.declared h.declared; more = h.more; grown = h.grown; are = h.are })
declared_behind ts rest before n c meant old middle new (Err e) h is = tt

-- what has met is put behind the others
pub met_behind : (ts : List DataType) (rest : List Note) (n : ℕ) (own : Meet) (m : Meeting) (old middle : Walk) (meets : Vec Meet Global) → Passes ts rest old middle
    → old.declared ≡ n → meets.items ≡ middle.meets.items ++ own ∷ [] → IsMeet ts own m → Meets ts rest n (m ∷ []) old (record middle { meets = meets })
met_behind ts rest n own m old middle meets p same pushed is = record {
  ahead = p.ahead;
  declared = p.declared ∙ same;
  more = own ∷ [];
  grown = pushed ∙ ap (λ ms. ms ++ own ∷ []) p.meets;
  are = (is, tt);
}
