-- Which declaration of a circuit a number belongs to: each takes numbers that no other takes, behind those of all ports.
use Rattle.std.proofs.Common.{◌≡◌, ℕ, ◌<◌, ◌≤◌, List, [], ◌∷◌, ◌++◌, refl, sym, ap, ◌∙◌, subst, inl, inr, arith}
use Rattle.fir_base.specs.Lists.{In}
use Rattle.fir_ast.specs.Circuits.{ModuleTree, CircuitTree}
use Rattle.fir_meaning.specs.Components.{Declaration, Declarations}
use Rattle.fir_meaning.specs.SizedDeclarations.{Numbering, NumberedModule, all_port_numbers, numbered_with, numbered_behind, behind_module, modules_from, first_numbers, numbered_modules}
use Rattle.fir_meaning.specs.Visibility.{declarations}

-- numbers grow along declarations
pub next_grows : (modules : List ModuleTree) (numbers : Numbering) (ds : Declarations) → numbers.next ≤ (numbered_behind modules numbers ds).next
next_grows modules numbers [] = omega arith
next_grows modules numbers (d ∷ ds) = omega (arith, next_grows modules (numbered_with modules numbers d) ds)

-- the numbers of one declaration of a module
pub record TakenBy (modules : List ModuleTree) (numbers : Numbering) (ds : Declarations) (d : Declaration) (j : ℕ) : Type 0 where
  pub from : (numbered_behind modules numbers ds).next ≤ j
  pub below : j < (numbered_with modules (numbered_behind modules numbers ds) d).next

pub record SamePlace (ds es : Declarations) (d e : Declaration) : Type 0 where
  pub front : ds ≡ es
  pub own : d ≡ e

same_place : (modules : List ModuleTree) (numbers : Numbering) (ds es : Declarations) (d e : Declaration) (more rest : Declarations) (j : ℕ)
    → ds ++ d ∷ more ≡ es ++ e ∷ rest → TakenBy modules numbers ds d j → TakenBy modules numbers es e j → SamePlace ds es d e
same_place modules numbers [] [] d e more rest j h a b = let same : d ≡ e = cc in record { front = refl; own = same }
same_place modules numbers [] (y ∷ es) d e more rest j h a b =
    let same : d ≡ y = cc in
    let grown : (numbered_with modules numbers d).next ≤ (numbered_behind modules (numbered_with modules numbers y) es).next =
    rw same (next_grows modules (numbered_with modules numbers y) es) in
    absurd (omega (arith, a.below, b.from, grown))
same_place modules numbers (x ∷ ds) [] d e more rest j h a b =
    let same : x ≡ e = cc in
    let grown : (numbered_with modules numbers e).next ≤ (numbered_behind modules (numbered_with modules numbers x) ds).next =
    rw same (next_grows modules (numbered_with modules numbers e) ds) in
    absurd (omega (arith, b.below, a.from, grown))
same_place modules numbers (x ∷ ds) (y ∷ es) d e more rest j h a b =
    let same : x ≡ y = cc in
    let later : ds ++ d ∷ more ≡ es ++ e ∷ rest = cc in
    let there : TakenBy modules (numbered_with modules numbers x) es e j =
    subst (λ z. TakenBy modules (numbered_with modules numbers z) es e j) (sym same) (record { from = b.from; below = b.below }) in
    let r = same_place modules (numbered_with modules numbers x) ds es d e more rest j later (record { from = a.from; below = a.below }) there in
    record { front = rw (same, r.front) refl; own = r.own }

-- a module's numbers are behind those of the modules before it
module_after : (modules : List ModuleTree) (numbers : Numbering) (ms : List ModuleTree) (m : NumberedModule) → In (modules_from modules numbers ms) m
    → numbers.next ≤ m.start.next
module_after modules numbers [] m i = absurd i
module_after modules numbers (x ∷ ms) m (inl e) = subst (λ (y : NumberedModule). numbers.next ≤ y.start.next) e (omega arith)
module_after modules numbers (x ∷ ms) m (inr i) =
    omega (arith, next_grows modules numbers (declarations x), module_after modules (behind_module modules numbers x) ms m i)

-- the numbers of a declaration of a module of a circuit
pub record Taken (m : NumberedModule) (ds : Declarations) (d : Declaration) (j : ℕ) : Type 0 where
  pub rest : Declarations
  pub all : ds ++ d ∷ rest ≡ declarations m.inside
  pub taken : TakenBy m.modules m.start ds d j

taken_before : (m : NumberedModule) (ds : Declarations) (d : Declaration) (j : ℕ) → Taken m ds d j
    → j < (numbered_behind m.modules m.start (declarations m.inside)).next
taken_before m ds d j t =
    let grown = next_grows m.modules (numbered_with m.modules (numbered_behind m.modules m.start ds) d) t.rest in
    let same : (numbered_behind m.modules m.start (ds ++ d ∷ t.rest)).next
    ≡ (numbered_behind m.modules (numbered_with m.modules (numbered_behind m.modules m.start ds) d) t.rest).next =
    ap (λ (n : Numbering). n.next) (behind_front m.modules m.start ds d t.rest) in
    let whole = ap (λ l. (numbered_behind m.modules m.start l).next) t.all in
    omega (arith, t.taken.below, grown, same, whole)
  where
    behind_front : (modules : List ModuleTree) (numbers : Numbering) (ds : Declarations) (d : Declaration) (more : Declarations)
        → numbered_behind modules numbers (ds ++ d ∷ more) ≡ numbered_behind modules (numbered_with modules (numbered_behind modules numbers ds) d) more
    behind_front modules numbers [] d more = refl
    behind_front modules numbers (x ∷ ds) d more = behind_front modules (numbered_with modules numbers x) ds d more

taken_after : (m : NumberedModule) (ds : Declarations) (d : Declaration) (j : ℕ) → Taken m ds d j → m.start.next ≤ j
taken_after m ds d j t = omega (arith, next_grows m.modules m.start ds, t.taken.from)

pub record OnePlace (m o : NumberedModule) (ds es : Declarations) (d e : Declaration) : Type 0 where
  pub within : m ≡ o
  pub place : SamePlace ds es d e

one_module : (m o : NumberedModule) (ds es : Declarations) (d e : Declaration) (j : ℕ) → m ≡ o → Taken m ds d j → Taken o es e j
    → OnePlace m o ds es d e
one_module m o ds es d e j same a b =
    let c = subst (λ (x : NumberedModule). Taken x es e j) (sym same) b in
    record { within = same; place = same_place m.modules m.start ds es d e a.rest c.rest j (a.all ∙ sym c.all) a.taken c.taken }

modules_apart : (modules : List ModuleTree) (numbers : Numbering) (ms : List ModuleTree) (m o : NumberedModule) (ds es : Declarations)
    (d e : Declaration) (j : ℕ) → In (modules_from modules numbers ms) m → In (modules_from modules numbers ms) o → Taken m ds d j → Taken o es e j
    → OnePlace m o ds es d e
modules_apart modules numbers [] m o ds es d e j i k a b = absurd i
modules_apart modules numbers (x ∷ ms) m o ds es d e j (inl f) (inl g) a b = one_module m o ds es d e j (sym f ∙ g) a b
modules_apart modules numbers (x ∷ ms) m o ds es d e j (inl f) (inr k) a b =
    let end = taken_before m ds d j a in
    let first : (numbered_behind m.modules m.start (declarations m.inside)).next ≡ (numbered_behind modules numbers (declarations x)).next =
    ap (λ (y : NumberedModule). (numbered_behind y.modules y.start (declarations y.inside)).next) (sym f) in
    absurd (omega (arith, end, first, module_after modules (behind_module modules numbers x) ms o k, taken_after o es e j b))
modules_apart modules numbers (x ∷ ms) m o ds es d e j (inr i) (inl g) a b =
    let end = taken_before o es e j b in
    let first : (numbered_behind o.modules o.start (declarations o.inside)).next ≡ (numbered_behind modules numbers (declarations x)).next =
    ap (λ (y : NumberedModule). (numbered_behind y.modules y.start (declarations y.inside)).next) (sym g) in
    absurd (omega (arith, end, first, module_after modules (behind_module modules numbers x) ms m i, taken_after m ds d j a))
modules_apart modules numbers (x ∷ ms) m o ds es d e j (inr i) (inr k) a b =
    modules_apart modules (behind_module modules numbers x) ms m o ds es d e j i k a b

-- a number is of one declaration of a circuit at most, and of no port
pub one_place : (c : CircuitTree) (m o : NumberedModule) (ds es : Declarations) (d e : Declaration) (j : ℕ) → In (numbered_modules c) m
    → In (numbered_modules c) o → Taken m ds d j → Taken o es e j → OnePlace m o ds es d e
one_place c m o ds es d e j i k a b = modules_apart c.modules (first_numbers c.modules) c.modules m o ds es d e j i k a b

pub no_port : (c : CircuitTree) (m : NumberedModule) (ds : Declarations) (d : Declaration) (j : ℕ) → In (numbered_modules c) m → Taken m ds d j
    → all_port_numbers c.modules ≤ j
no_port c m ds d j i t = omega (arith, module_after c.modules (first_numbers c.modules) c.modules m i, taken_after m ds d j t)
