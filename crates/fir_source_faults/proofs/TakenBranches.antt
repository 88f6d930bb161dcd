-- The branches of whens from a leaf's declaration inward: which are taken, what their conditions read, and what a when tells beside its blocks.
use Rattle.std.proofs.Common.{◌≡◌, ℕ, zero, suc, ◌≤◌, List, [], ◌∷◌, ◌++◌, Bool, true, false, not, ◌&&◌, ◌||◌, drop, flat_map, length, if◌then◌else◌, Option, Some, None, option_map, refl, sym, ap, ap₂, ◌∙◌, append_assoc, append-nil, arith}
use Rattle.std.proofs.lemmas.List.{map-append}
use Rattle.fir_ast.specs.declared.fault.Outcome.{Outcome}
use Rattle.fir_meaning.specs.working.Choices as over
use Rattle.fir_meaning.specs.working.Choices.{Live, below, first_part, last_all, second_part}
use Rattle.fir_meaning.specs.LeafPaths.{LeafPath}
use Rattle.fir_meaning.specs.ModuleScenes.{Scene}
use Rattle.fir_meaning.specs.SourceChoices.{Choice, are_taken}
use Rattle.fir_meaning.specs.SourceDrives.{Drive}
use Rattle.fir_meaning.specs.working.TermReads as by_number
use Rattle.fir_meaning.specs.working.Terms.{Term}
use Rattle.fir_meaning.specs.Visits.{Branch}
use Rattle.fir_source_faults.specs.working.ReadsByPath.{path_in, paths_in}
use Rattle.fir_source_faults.proofs.Pieces.{SameLast}

-- branches from a leaf's declaration inward, with one more
pub drop_nothing : {A : Type 0} → (n : ℕ) → drop {A = A} n [] ≡ []
drop_nothing zero = refl
drop_nothing (suc n) = refl

pub drop_all : {A : Type 0} → (n : ℕ) (xs : List A) → length xs ≤ n → drop n xs ≡ []
drop_all n [] h = drop_nothing n
drop_all zero (x ∷ xs) h = absurd (omega (arith, h))
drop_all (suc n) (x ∷ xs) h = drop_all n xs (omega (arith, h))

pub taken_more : (h : Choice) (bs : List Branch) (b : Branch)
    → are_taken h (bs ++ b ∷ []) ≡ (are_taken h bs && ((if b.is_first then h b.way else not (h b.way)) && true))
taken_more h [] b = refl
taken_more h (c ∷ bs) b =
    ap (λ t. (if c.is_first then h c.way else not (h c.way)) && t) (taken_more h bs b)
    ∙ thrice (if c.is_first then h c.way else not (h c.way)) (are_taken h bs) ((if b.is_first then h b.way else not (h b.way)) && true)
  where
    thrice : (p q r : Bool) → (p && (q && r)) ≡ ((p && q) && r)
    thrice true q r = refl
    thrice false q r = refl

pub or_false : (b : Bool) → (b || false) ≡ b
or_false true = refl
or_false false = refl

module _ (s : Scene) (depth x : ℕ) where
  -- a condition goes from those that stand round into the live statement
  pub moved_in : (outer : List LeafPath) (t : Term) (r : List LeafPath) (o : Option Live) (d : Option Drive) → paths_in s (by_number.reads t) ≡ r
      → SameLast s depth x (outer ++ (r ++ [])) o d → SameLast s depth x outer (option_map (below t) o) d
  moved_in outer t r None None e h = tt
  moved_in outer t r None (Some d) e h = absurd h
  moved_in outer t r (Some l) None e h = absurd h
  moved_in outer t r (Some l) (Some d) e h =
      let rest = paths_in s (over.live_reads l) in
      let behind : paths_in s (over.live_reads (below t l)) ≡ paths_in s (by_number.reads t ++ over.live_reads l) =
      ap (paths_in s)
      (ap (λ (ps : List ℕ). ps ++ by_number.reads l.given)
      (append_assoc (by_number.reads t) (flat_map by_number.reads l.under) (by_number.picks_read l.through))
      ∙ append_assoc (by_number.reads t) (flat_map by_number.reads l.under ++ by_number.picks_read l.through) (by_number.reads l.given)) in
      let apart : paths_in s (by_number.reads t ++ over.live_reads l) ≡ paths_in s (by_number.reads t) ++ rest =
      map-append (path_in s) (by_number.reads t) (over.live_reads l) in
      record {
        place = h.place;
        reads =
            ap (λ (ps : List LeafPath). outer ++ ps) (behind ∙ apart ∙ ap (λ (ps : List LeafPath). ps ++ rest) (e ∙ sym (append-nil r)))
            ∙ sym (append_assoc outer (r ++ []) rest) ∙ h.reads;
      }

-- what a when tells beside its blocks, of which one is taken
pub told_first : (hold : Bool) (o : Outcome) (n ta tb : List Outcome) → n ≡ ta → tb ≡ [] → (hold ≡ false → n ≡ [])
    → (if hold then o ∷ n else []) ++ [] ≡ (if hold then o ∷ [] else []) ++ (ta ++ tb)
told_first true o n ta tb e none h = ap (λ (os : List Outcome). o ∷ os) (append-nil n ∙ e ∙ sym (append-nil ta) ∙ ap (λ (os : List Outcome). ta ++ os) (sym none))
told_first false o n ta tb e none h = ap₂ (λ (os ps : List Outcome). os ++ ps) (sym (h refl) ∙ e) (sym none)

pub told_second : (hold : Bool) (o : Outcome) (n ta tb : List Outcome) → n ≡ tb → ta ≡ [] → (hold ≡ false → n ≡ [])
    → (if hold then o ∷ n else []) ++ [] ≡ (if hold then o ∷ [] else []) ++ (ta ++ tb)
told_second true o n ta tb e none h = ap (λ (os : List Outcome). o ∷ os) (append-nil n ∙ ap₂ (λ (os ps : List Outcome). os ++ ps) (sym none) e)
told_second false o n ta tb e none h = ap₂ (λ (os ps : List Outcome). os ++ ps) (sym none) (sym (h refl) ∙ e)
