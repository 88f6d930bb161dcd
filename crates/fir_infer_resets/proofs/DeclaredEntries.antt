-- What the tables of a circuit have for the first name of a leaf's path.
use Rattle.std.proofs.Common.{◌≡◌, ℕ, suc, List, [], ◌∷◌, Bool, true, false, cond, Option, Some, ap, sym, ◌∙◌, slice_get, Bor}
use Rattle.std.specs.Str.{bytes_eq}
use Rattle.std.proofs.lemmas.Option.{same_Some, none-some}
use Rattle.fir_ast.specs.Statements.{PlacedName}
use Rattle.fir_meaning.specs.Components.{Declaration, Declarations, find}
use Rattle.fir_meaning.specs.LeafPaths.{LeafPath, named}
use Rattle.fir_meaning.specs.LeafPaths as path
use Rattle.fir_names.specs.declared.declaration.Declaration.{Declaration as Entry}
use Rattle.fir_names.specs.declared.names.Names.{Names}
use Rattle.fir_names.specs.working.Tabulated.{entry_of, entry_named, found, Tabulates}
use Rattle.fir_infer_resets.specs.declared.item.Step.{Step}
use Rattle.fir_infer_resets.specs.declared.item.Step.TheVariants as step
use Rattle.fir_infer_resets.specs.working.Holding.{step_of, path_of}

-- the entry of a declaration, behind so many
abbrev pub IsEntry : List PlacedName → Declaration → Option Entry → Type 0
IsEntry modules d o = (position : ℕ) × (o ≡ Some (entry_of modules position d))

entry_step : (modules : List PlacedName) (i : ℕ) (b : Bool) (x d : Declaration) (o : Option Declaration) (p : Option Entry) → (o ≡ Some d → IsEntry modules d p)
    → cond b (Some x) o ≡ Some d → IsEntry modules d (cond b (Some (entry_of modules i x)) p)
entry_step modules i true x d o p rest h = (i, ap (λ y. Some (entry_of modules i y)) (same_Some x d h))
entry_step modules i false x d o p rest h = rest h

entry_there : (modules : List PlacedName) (i : ℕ) (ds : Declarations) (name : List ℕ) (d : Declaration) → find ds name ≡ Some d → IsEntry modules d (entry_named modules i ds name)
entry_there modules i [] name d h = absurd (none-some d h)
entry_there modules i (x ∷ ds) name d h =
    entry_step modules i (bytes_eq x.named.name name) x d (find ds name) (entry_named modules (suc i) ds name) (entry_there modules (suc i) ds name d) h

pub table_entry : (modules : List PlacedName) (names : Names) (ds : Declarations) (name : List ℕ) (d : Declaration) → Tabulates modules names ds → find ds name ≡ Some d
    → IsEntry modules d (found names name)
table_entry modules names ds name d t h = let r = entry_there modules 0 ds name d h in (r.0, t.by_name name ∙ r.1)

-- the first name of a path, as the code has it
pub first_named : (steps : List Step) (s : Step) (x : Bor (List ℕ)) (name : List ℕ) (rest : LeafPath) → Some s ≡ slice_get steps 0 → s ≡ step.Named x → path_of steps ≡ named name ∷ rest → x.now ≡ name
first_named [] s x name rest h is e = absurd (cc)
first_named (t ∷ steps) s x name rest h is e =
    let same : step.Named x ≡ t = sym is ∙ same_Some s t h in
    let first : named x.now ≡ named name = ap step_of same ∙ first_of (step_of t) name (path_of steps) rest e in
    name_of x.now name first
  where
    first_of : (u : path.Step) (n : List ℕ) (us rest : LeafPath) → u ∷ us ≡ named n ∷ rest → u ≡ named n
    first_of u n us rest h = cc

    name_of : (a b : List ℕ) → named a ≡ named b → a ≡ b
    name_of a b h = cc
