-- What a walk over mentions comes to: a fault is told, or none stands and the scope has what is behind.
use Rattle.std.proofs.Common.{◌≡◌, List, ◌++◌, Some, None, option_map, sym, ap, ◌∙◌}
use Rattle.std.specs.Prelude.{Option}
use Rattle.fir_ast.specs.declared.fault.FirFault.{FirFault}
use Rattle.fir_ast.specs.Expressions.{Expression}
use Rattle.fir_ast.specs.Statements.{PlacedName}
use Rattle.fir_ast.specs.Faults.{Fault}
use Rattle.fir_ast.specs.working.CodeFaults.{fault_of}
use Rattle.fir_pass.specs.Groups.{first_of}
use Rattle.fir_meaning.specs.Components.{Declarations, find_name}
use Rattle.fir_meaning.specs.Visibility.{Before}
use Rattle.fir_meaning.specs.Mentions.{Mention, declares, expression_mentions, names_declared}
use Rattle.fir_meaning.specs.NameGroups.{faults_in, mention_faults}
use Rattle.fir_resolve.specs.declared.scope.Scope.{Scope}
use Rattle.fir_resolve.specs.working.Scoped.{Passes, Walks}
use Rattle.fir_names.proofs.FirstMentions.{front_silent, mentions_behind, mentions_front, silent}
use Rattle.fir_names.proofs.TableEntries.{not_second}

pub passes_told : (modules : List PlacedName) (old new : Scope) (ms : List Mention) (after : Before) (x : FirFault)
    → Some (fault_of x) ≡ first_of (faults_in ms) → Passes modules old new ms after (Some x)
passes_told modules old new ms after x first = record { first = first; walked = λ none. absurd (cc); still_open = λ none. absurd (cc) }

pub passes_silent : (modules : List PlacedName) (old new : Scope) (ms : List Mention) (after : Before) → None ≡ first_of (faults_in ms)
    → Walks modules new after → new.opened.items ≡ old.opened.items → Passes modules old new ms after None
passes_silent modules old new ms after first walked open_still = record { first = first; walked = λ none. walked; still_open = λ none. open_still }

-- a name of which no second declaration is told is new
pub is_new : (before : Before) (n : PlacedName) (f : Option FirFault) → f ≡ None
    → option_map fault_of f ≡ first_of (mention_faults (declares (names_declared before) n)) → find_name (names_declared before) n.name ≡ None
is_new before n f none first =
    not_second (find_name (names_declared before) n.name) n (silent f (first_of (mention_faults (declares (names_declared before) n))) none first)

-- what is walked behind what was passed
pub passes_rest : (modules : List PlacedName) (old new : Scope) (a b : List Mention) (after : Before) (f g : Option FirFault) → f ≡ None
    → Passes modules old new a after f → option_map fault_of g ≡ first_of (faults_in b) → Passes modules old new (a ++ b) after g
passes_rest modules old new a b after f g none p first = record {
  first = first ∙ sym (front_silent f a b none p.first);
  walked = λ silent. p.walked none;
  still_open = λ silent. p.still_open none;
}

-- of three lists of mentions, a fault in the first, in the second where the first has none, and what the third has where the others have none
pub first_of_three : (a b c : List Mention) (x : Fault) → Some x ≡ first_of (faults_in a) → Some x ≡ first_of (faults_in (a ++ b ++ c))
first_of_three a b c x some = mentions_front (a ++ b) c x (mentions_front a b x some)

pub second_of_three : (a b c : List Mention) (x : Fault) → None ≡ first_of (faults_in a) → Some x ≡ first_of (faults_in b)
    → Some x ≡ first_of (faults_in (a ++ b ++ c))
second_of_three a b c x none some = mentions_front (a ++ b) c x (some ∙ sym (mentions_behind a b none))

pub third_of_three : (a b c : List Mention) (o : Option Fault) → None ≡ first_of (faults_in a) → None ≡ first_of (faults_in b)
    → o ≡ first_of (faults_in c) → o ≡ first_of (faults_in (a ++ b ++ c))
third_of_three a b c o none neither same = same ∙ sym (mentions_behind (a ++ b) c (neither ∙ sym (mentions_behind a b none)))

-- what is told of an expression is told of all that stands for it
pub expression_told : (visible : Declarations) (other e : Expression) (o : Option Fault) → other ≡ e → o ≡ first_of (faults_in (expression_mentions visible e))
    → o ≡ first_of (faults_in (expression_mentions visible other))
expression_told visible other e o is same = same ∙ ap (λ x. first_of (faults_in (expression_mentions visible x))) (sym is)
