-- The modules that have copies, and what was found in them, one by one.
use Rattle.std.proofs.Common.{◌≡◌, ◌⊎◌, ℕ, ◌+◌, ◌<◌, ◌≤◌, List, [], ◌∷◌, ◌++◌, get_or, length, set, take, replicate, slice_get, Bool, true, false, Option, Some, refl, sym, ap, ◌∙◌, subst, inl, inr, ⊎_elim, arith}
use Rattle.std.proofs.lemmas.Bool.{cases_eq, cases_lt}
use Rattle.std.proofs.lemmas.List.{length-replicate, length-set, length_push, take_more}
use Rattle.std.proofs.lemmas.Option.{none-some, same_Some, slice_get_within}
use Rattle.fir_base.specs.Lists.{In}
use Rattle.fir_base.proofs.Elements.{get_behind, get_left}
use Rattle.fir_base.proofs.Members.{in_either}
use Rattle.fir_base.proofs.Writes.{write_other, write_same}
use Rattle.fir_leaf_circuit.specs.declared.leaf_module.LeafModule.{LeafModule as ModuleOfCode}
use Rattle.fir_elaborate.specs.declared.elaborated.ModuleCopy.{ModuleCopy}
use Rattle.fir_whens.specs.declared.module_net.ModuleNet.{ModuleNet}
use Rattle.fir_memory_clocks.specs.declared.module_memories.FoundMemory.{FoundMemory}
use Rattle.fir_memory_clocks.specs.working.HeldModules.{AreHeld}
use Rattle.fir_memory_clocks.specs.working.ModuleMemories.{AreFirstMemories, IsFoundIn}

-- ---- those that have copies

pub none_held : (count : ℕ) → AreHeld count [] (replicate count false)
none_held count = record { long = length-replicate count false; each = λ k i lt. absurd i }

held_push : (count : ℕ) (ks : List ModuleCopy) (k : ModuleCopy) (held : List Bool) → AreHeld count ks held
    → AreHeld count (ks ++ k ∷ []) (set held k.module_number true)
held_push count ks k held h = record {
  long = length-set held k.module_number true ∙ h.long;
  each = λ j i lt.
      ⊎_elim (λ (old : In ks j). by j old lt (cases_eq j.module_number k.module_number))
      (λ (new : (k ≡ j) ⊎ ⊥). ⊎_elim (λ (e : k ≡ j). here j lt (ap (λ (q : ModuleCopy). q.module_number) (sym e))) (λ (b : ⊥). absurd b) new)
      (in_either ks (k ∷ []) j i);
}
  where
    here : (j : ModuleCopy) → j.module_number < count → j.module_number ≡ k.module_number
        → slice_get (set held k.module_number true) j.module_number ≡ Some true
    here j lt e =
        ap (slice_get (set held k.module_number true)) e ∙ write_same held k.module_number true (omega (arith, lt, e, h.long))

    by : (j : ModuleCopy) → In ks j → j.module_number < count → (j.module_number ≡ k.module_number) ⊎ (j.module_number ≡ k.module_number → ⊥)
        → slice_get (set held k.module_number true) j.module_number ≡ Some true
    by j old lt (inl e) = here j lt e
    by j old lt (inr other) = write_other held k.module_number true j.module_number other ∙ h.each j old lt

pub held_more : (count : ℕ) (copies : List ModuleCopy) (i : ℕ) (k : ModuleCopy) (held : List Bool) → i < length copies → k ≡ get_or copies i k
    → AreHeld count (take i copies) held → AreHeld count (take (i + 1) copies) (set held k.module_number true)
held_more count copies i k held within is h =
    subst (λ ks. AreHeld count ks (set held k.module_number true))
    (sym (take_more copies i k within ∙ ap (λ z. take i copies ++ z ∷ []) (sym is))) (held_push count (take i copies) k held h)

-- ---- and what was found in them

module _ (parts : List ModuleOfCode) (nets : List ModuleNet) (held : List Bool) where
  pub record FoundSoFar (found : List (Option FoundMemory)) (n : ℕ) : Type 0 where
    pub count : length found ≡ n
    pub each : (x : ℕ) (v : Option FoundMemory) → slice_get found x ≡ Some v → IsFoundIn parts nets held x v

  pub none_found : FoundSoFar [] 0
  none_found = record { count = refl; each = λ x v at. absurd (none-some v at) }

  pub one_more_found : (found : List (Option FoundMemory)) (n : ℕ) (new : Option FoundMemory) → IsFoundIn parts nets held n new → FoundSoFar found n
      → FoundSoFar (found ++ new ∷ []) (n + 1)
  one_more_found found n new is h = record {
    count = omega (arith, length_push found new, h.count);
    each = λ x v at. where_at x v at (cases_lt x (length found));
  }
    where
      where_at : (x : ℕ) (v : Option FoundMemory) → slice_get (found ++ new ∷ []) x ≡ Some v → (x < length found) ⊎ (length found ≤ x)
          → IsFoundIn parts nets held x v
      where_at x v at (inl before) = h.each x v (sym (get_left found (new ∷ []) x before) ∙ at)
      where_at x v at (inr past) =
          let long = slice_get_within (found ++ new ∷ []) x v at in
          let last : length found ≡ x = omega (arith, long, past, length_push found new) in
          let place : n ≡ x = sym h.count ∙ last in
          let same : new ≡ v = same_Some new v (sym (get_behind found [] new) ∙ ap (slice_get (found ++ new ∷ [])) last ∙ at) in
          subst (λ (q : Option FoundMemory). IsFoundIn parts nets held x q) same (subst (λ (y : ℕ). IsFoundIn parts nets held y new) place is)

  pub all_found : (copies : List ModuleCopy) → AreHeld (length parts) copies held → (found : List (Option FoundMemory)) (n : ℕ) → n ≡ length parts
      → FoundSoFar found n → AreFirstMemories parts nets copies found
  all_found copies are_held found n whole h = record {
    count = h.count ∙ whole;
    each = λ k part net v among of by at.
        h.each k.module_number v at part net of by (are_held.each k among (slice_get_within parts k.module_number part of));
  }
