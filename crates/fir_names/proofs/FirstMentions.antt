-- First faults of mentions that stand one behind the other, as a walk over them tells.
-- Where what is in front has none, the first is that of what is behind it.
use Rattle.std.proofs.Common.{◌≡◌, ℕ, ◌+◌, ◌<◌, List, [], ◌∷◌, ◌++◌, map, drop, length, get_or, refl, sym, ap, ◌∙◌}
use Rattle.std.specs.Prelude.{Option, Some, None, option_map}
use Rattle.std.proofs.lemmas.Grind.{flat_map-append}
use Rattle.std.proofs.lemmas.List.{append-nil, drop_more}
use Rattle.fir_ast.specs.declared.fault.FirFault.{FirFault}
use Rattle.fir_ast.specs.Faults.{Fault}
use Rattle.fir_ast.specs.working.CodeFaults.{fault_of}
use Rattle.fir_pass.specs.Groups.{first_of}
use Rattle.fir_meaning.specs.Mentions.{Mention}
use Rattle.fir_meaning.specs.NameGroups.{mention_faults, faults_in}

-- lists of faults
pub first_behind : (a b : List Fault) → None ≡ first_of a → first_of (a ++ b) ≡ first_of b
first_behind [] b none = refl
first_behind (x ∷ a) b none = absurd (cc)

pub first_front : (a b : List Fault) (x : Fault) → Some x ≡ first_of a → Some x ≡ first_of (a ++ b)
first_front [] b x some = absurd (cc)
first_front (y ∷ a) b x some = some

pub none_is : (a : List Fault) → None ≡ first_of a → a ≡ []
none_is [] none = refl
none_is (x ∷ a) none = absurd (cc)

-- lists of mentions
pub mentions_front : (a b : List Mention) (x : Fault) → Some x ≡ first_of (faults_in a) → Some x ≡ first_of (faults_in (a ++ b))
mentions_front a b x some = first_front (faults_in a) (faults_in b) x some ∙ ap first_of (sym (flat_map-append mention_faults a b))

pub mentions_behind : (a b : List Mention) → None ≡ first_of (faults_in a) → first_of (faults_in (a ++ b)) ≡ first_of (faults_in b)
mentions_behind a b none = ap first_of (flat_map-append mention_faults a b) ∙ first_behind (faults_in a) (faults_in b) none

pub only_one : (m : Mention) → faults_in (m ∷ []) ≡ mention_faults m
only_one m = append-nil (mention_faults m)

-- what a walk tells: a fault, or none
pub told : (f : Option FirFault) (x : FirFault) (first : Option Fault) → f ≡ Some x → option_map fault_of f ≡ first → Some (fault_of x) ≡ first
told f x first is same = ap (option_map fault_of) (sym is) ∙ same

pub silent : (f : Option FirFault) (first : Option Fault) → f ≡ None → option_map fault_of f ≡ first → None ≡ first
silent f first is same = ap (option_map fault_of) (sym is) ∙ same

pub tells_none : (f : Option FirFault) → None ≡ option_map fault_of f → f ≡ None
tells_none None none = refl
tells_none (Some x) none = absurd (cc)

-- of two lists of mentions, a fault in the first; and where it has none, those of the second
pub front_told : (f : Option FirFault) (x : FirFault) (a b : List Mention) → f ≡ Some x → option_map fault_of f ≡ first_of (faults_in a)
    → Some (fault_of x) ≡ first_of (faults_in (a ++ b))
front_told f x a b is same = mentions_front a b (fault_of x) (told f x (first_of (faults_in a)) is same)

pub front_silent : (f : Option FirFault) (a b : List Mention) → f ≡ None → option_map fault_of f ≡ first_of (faults_in a)
    → first_of (faults_in (a ++ b)) ≡ first_of (faults_in b)
front_silent f a b is same = mentions_behind a b (silent f (first_of (faults_in a)) is same)

-- the same of one mention before others
pub head_told : (f : Option FirFault) (x : FirFault) (m : Mention) (ms : List Mention) → f ≡ Some x
    → option_map fault_of f ≡ first_of (mention_faults m) → Some (fault_of x) ≡ first_of (faults_in (m ∷ ms))
head_told f x m ms is same = first_front (mention_faults m) (faults_in ms) (fault_of x) (told f x (first_of (mention_faults m)) is same)

pub head_silent : (f : Option FirFault) (m : Mention) (ms : List Mention) → f ≡ None
    → option_map fault_of f ≡ first_of (mention_faults m) → first_of (faults_in (m ∷ ms)) ≡ first_of (faults_in ms)
head_silent f m ms is same = first_behind (mention_faults m) (faults_in ms) (silent f (first_of (mention_faults m)) is same)

-- the views of what is left begin with the next one's
pub views_left : {A B : Type 0} (view : A → B) (xs : List A) (i : ℕ) (x : A) → i < length xs → x ≡ get_or xs i x
    → map view (drop i xs) ≡ view x ∷ map view (drop (i + 1) xs)
views_left view xs i x within at = ap (map view) (drop_more xs i x within) ∙ ap (λ y. view y ∷ map view (drop (i + 1) xs)) (sym at)
