-- The words of the state, one after the other: one more than a walk over the state has so far.
use Rattle.std.proofs.Common.{◌≡◌, ℕ, List, [], ◌∷◌, ◌++◌, map, refl, sym, ap, ◌∙◌, unwrap_or, Option, Some, None}
use Rattle.std.specs.Prelude.{slice_get}
use Rattle.std.proofs.lemmas.List.{map_push}
use Rattle.fir_net.specs.declared.leaf.Leaf.{Leaf}
use Rattle.fir_net.specs.declared.net.FlatNet.{FlatNet}
use Rattle.fir_net.proofs.WholeValues.{width_at}
use Rattle.fir_net_names.specs.working.LeafNamed.{name_at}
use Rattle.trace_text.specs.declared.shape.StateWord.{StateWord}
use Rattle.fir_tick.specs.working.StateWords.{state_word}

same_word : (n m : List ℕ) (v w : ℕ) → n ≡ m → v ≡ w → ◌≡◌ {A = StateWord} (record { name = n; width = v; depth = None }) (record { name = m; width = w; depth = None })
same_word n m v w e f = rw (e, f) refl

-- the word of a register or a pipe that has a name
word_is : (net : FlatNet) (names : List (Option (List ℕ))) (k : ℕ) (l : Leaf) (name : List ℕ) → slice_get net.leaves k ≡ Some l → name_at names k ≡ Some name
    → state_word net names k ≡ record { name = name; width = l.width; depth = None }
word_is net names k l name at named = same_word _ _ _ _ (ap (λ (o : Option (List ℕ)). unwrap_or o []) named) (width_at net.leaves k l at)

pub words_more : (net : FlatNet) (names : List (Option (List ℕ))) (before after : List ℕ) (k : ℕ) (l : Leaf) (name : List ℕ) (words more : List StateWord)
    → after ≡ before ++ k ∷ [] → slice_get net.leaves k ≡ Some l → name_at names k ≡ Some name → more ≡ words ++ record { name = name; width = l.width; depth = None } ∷ []
    → words ≡ map (state_word net names) before → more ≡ map (state_word net names) after
words_more net names before after k l name words more next at named grown so_far =
    grown ∙ ap (λ (ws : List StateWord). ws ++ record { name = name; width = l.width; depth = None } ∷ []) so_far
    ∙ ap (λ (w : StateWord). map (state_word net names) before ++ w ∷ []) (sym (word_is net names k l name at named))
    ∙ sym (ap (map (state_word net names)) next ∙ map_push (state_word net names) before k)
