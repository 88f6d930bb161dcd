-- The walk that finds the told choice, at a statement that drives one leaf, or one of several through indices.
use Rattle.std.proofs.Common.{◌≡◌, ℕ, List, [], ◌∷◌, ◌++◌, true, false, refl, sym, ap, ◌∙◌, append-nil}
use Rattle.std.proofs.lemmas.Bool.{and_right}
use Rattle.fir_ast.specs.declared.fault.Outcome.{Outcome}
use Rattle.fir_ast.specs.declared.fault.Outcome.TheVariants as outcome
use Rattle.fir_ast.specs.declared.place.Place.{Place}
use Rattle.fir_meaning.specs.working.LeafBlocks.{LeafStatement, drive}
use Rattle.fir_meaning.specs.working.Terms.{Picks, Term}
use Rattle.fir_meaning.specs.working.TermReads.{is_among, is_picked, reached}
use Rattle.fir_meaning.specs.working.UndrivenChoices.{drives}
use Rattle.fir_driven.specs.declared.choice.Asked.{Asked}
use Rattle.fir_driven.specs.working.MissWalks.{MissesStatement}
use Rattle.fir_driven.proofs.MissesInBlocks.{misses_none}

module _ (asked : Asked) (s : LeafStatement) (k : ℕ) (before : List Outcome) (p : Place) (b : ℕ) (ps : Picks) (t : Term) (view : s ≡ drive p b ps t) where
  pub misses_apart : drives asked.leaf s ≡ false → MissesStatement asked s k (record { covered = false; drives = false }) before before
  misses_apart e =
      let apart : is_among (reached b ps) asked.leaf ≡ false = ap (drives asked.leaf) (sym view) ∙ e in
      rw (view, apart, and_right (is_picked ps) false refl) (misses_none before)

  pub misses_through : drives asked.leaf s ≡ true → is_picked ps ≡ true
      → MissesStatement asked s k (record { covered = false; drives = true }) before (before ++ outcome.Index p false ∷ [])
  misses_through e picked =
      let among : is_among (reached b ps) asked.leaf ≡ true = ap (drives asked.leaf) (sym view) ∙ e in
      rw (view, among, picked) (record { covered = refl; drives = refl; added = outcome.Index p false ∷ []; grows = refl; missed = λ _. refl })

  pub misses_never : drives asked.leaf s ≡ true → is_picked ps ≡ false → MissesStatement asked s k (record { covered = true; drives = true }) before before
  misses_never e picked =
      let among : is_among (reached b ps) asked.leaf ≡ true = ap (drives asked.leaf) (sym view) ∙ e in
      rw (view, among, picked) (record { covered = refl; drives = refl; added = []; grows = sym (append-nil before); missed = λ _. refl })
