-- Blocks that were judged.
use Rattle.std.proofs.Common.{◌≡◌, ℕ, List, [], ◌∷◌, ◌++◌, Bool, true, false, refl, sym, ap, ◌∙◌, subst}
use Rattle.std.specs.Prelude.{Option, Some, None, option_map, if◌then◌else◌}
use Rattle.std.specs.Str.{bytes_eq}
use Rattle.ver_ast.specs.declared.place.VPlace.{VPlace}
use Rattle.ver_ast.specs.declared.tree.Write.{Write}
use Rattle.ver_ast.specs.Grammar.{write_tokens}
use Rattle.ver_fault.specs.Faults.{VFault}
use Rattle.ver_check.specs.declared.kind.Kind.{Kind}
use Rattle.ver_check.specs.declared.scope.Entry.{Entry}
use Rattle.ver_check.specs.declared.scope.Scope.{Scope as Names}
use Rattle.ver_check.specs.FaultForms.{undeclared_fault, kind_fault}
use Rattle.ver_check.specs.Scopes.{Declaration, Scope, declaration_of, kind_of}
use Rattle.ver_places.specs.Places.{behind}
use Rattle.ver_check.specs.OperandFaults.{name_faults, lacking_faults}
use Rattle.ver_check.specs.SideFaults.{misplaced_faults}
use Rattle.ver_check.specs.ItemFaults.{Before, again_faults, more_writes_faults, next_write_faults}
use Rattle.ver_check.specs.TreeFaults.{BeginsWith}
use Rattle.ver_check.specs.working.Known.{Knows, found, entry_of}
use Rattle.fir_base.proofs.SameNames.{name_is}
use Rattle.ver_check.proofs.Firsts.{begins_more}

kinds : (o : Option Declaration) → option_map (λ (e : Entry). e.kind) (option_map entry_of o) ≡ option_map (λ (d : Declaration). d.kind) o
kinds None = refl
kinds (Some d) = refl

-- what the code finds of a name
pub known_kind : (names : Names) (scope : Scope) → Knows names scope → (n : List ℕ) (o : Option Entry) → found names n ≡ o
    → kind_of scope n ≡ option_map (λ (e : Entry). e.kind) o
known_kind names scope k n o e = sym (kinds (declaration_of scope n)) ∙ ap (option_map (λ (x : Entry). x.kind)) (sym (k.by_name n) ∙ e)

pub unknown_begins : (bits : Kind → Option ℕ) (p : VPlace) (n : List ℕ) (o : Option Kind) (f : VFault) (gs : List VFault)
    → o ≡ None → BeginsWith (undeclared_fault p n ∷ []) f → BeginsWith (name_faults bits p n o ++ gs) f
unknown_begins bits p n o f gs e h =
    subst (λ (x : Option Kind). BeginsWith (name_faults bits p n x ++ gs) f) (sym e) (begins_more f (undeclared_fault p n ∷ []) gs h)

pub lacking_begins : (bits : Kind → Option ℕ) (p : VPlace) (n : List ℕ) (o : Option Kind) (k : Kind) (gs : List VFault)
    → o ≡ Some k → bits k ≡ None → BeginsWith (name_faults bits p n o ++ gs) (kind_fault p)
lacking_begins bits p n o k gs e lacks =
    (gs, ap (λ (x : Option Kind). name_faults bits p n x ++ gs) e ∙ ap (λ (x : Option ℕ). lacking_faults p x ++ gs) lacks)

-- the writes from one on, behind others that have no fault
pub next_writes : (before : Before) (first : List ℕ) (all : List VFault) (ws more : List Write) (w : Write) (ps qs : List VPlace)
    → ws ≡ w ∷ more → all ≡ more_writes_faults before first ws ps → next_write_faults before first w ps ≡ [] → qs ≡ behind (write_tokens w) ps
    → all ≡ more_writes_faults before first more qs
next_writes before first all ws more w ps qs is e none next =
    e ∙ ap (λ (x : List Write). more_writes_faults before first x ps) is
    ∙ ap (λ (fs : List VFault). fs ++ more_writes_faults before first more (behind (write_tokens w) ps)) none
    ∙ ap (more_writes_faults before first more) (sym next)

pub write_begins : (before : Before) (first : List ℕ) (all : List VFault) (ws more : List Write) (w : Write) (ps : List VPlace) (f : VFault)
    → ws ≡ w ∷ more → all ≡ more_writes_faults before first ws ps → BeginsWith (next_write_faults before first w ps) f → BeginsWith all f
write_begins before first all ws more w ps f is e h =
    subst (λ (fs : List VFault). BeginsWith fs f) (sym (e ∙ ap (λ (x : List Write). more_writes_faults before first x ps) is))
    (begins_more f (next_write_faults before first w ps) (more_writes_faults before first more (behind (write_tokens w) ps)) h)

pub none_misplaced : (p : VPlace) (n : List ℕ) (o : Option Kind) → misplaced_faults p n o ≡ [] → ⊥
none_misplaced p n None e = cc
none_misplaced p n (Some k) e = cc

-- a name that stands there again is the first one
pub again_same : (before : Before) (first n : List ℕ) (p : VPlace) → again_faults before first n p ≡ [] → first ≡ n
again_same before first n p e = by (bytes_eq first n) refl
  where
    by : (b : Bool) → bytes_eq first n ≡ b → first ≡ n
    by true s = name_is first n s
    by false s =
        absurd (none_misplaced p n (kind_of before.scope n)
        (sym (ap (λ (b : Bool). if b then [] else misplaced_faults p n (kind_of before.scope n)) s) ∙ e))
