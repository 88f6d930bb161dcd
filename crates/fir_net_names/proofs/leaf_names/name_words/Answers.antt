use Rattle.std.proofs.Common.{◌≡◌, ℕ, List, get_or, ◌<◌, ◌∷◌, ◌+◌, length, set, drop, Some, sym, ap, subst, ◌∙◌}
use Rattle.std.specs.Prelude.{slice_get}
use Rattle.std.proofs.lemmas.List.{drop_more}
use Rattle.std.proofs.lemmas.Option.{slice_get-get_or, slice_get_within}
use Rattle.fir_net.specs.declared.leaf.Leaf.{Leaf}
use Rattle.fir_net.specs.Paths.{base_name}
use Rattle.fir_net_names.specs.working.NameSets.{TakesName}
use Rattle.fir_net_names.proofs.NamedLeaves.{NamedWords, words_more}
use Rattle.fir_net_names.proofs.leaf_names.name_words.Goals as goal

pub loop-word-preserved : goal.loop-word-preserved
loop-word-preserved c =
    let net = c.args.net.now in
    let i = c.loop-word.word-index in
    let word = c.word-item.result in
    let names = c.loop-word.names.items in
    let state = c.as_slice-state.result.now in
    let leaves = c.as_slice-leaves.result.now in
    let rest = drop (i + 1) net.state in
    let next : drop i net.state ≡ word ∷ rest =
    subst (λ ks. drop i ks ≡ word ∷ drop (i + 1) ks) c.as_slice-state.ensures (drop_more state i word c.loop-word-test.true ∙ ap (λ k. k ∷ drop (i + 1) state) (sym c.word-item.is)) in
    let so_far : NamedWords net (word ∷ rest) names c.loop-word.taken.names = subst (λ left. NamedWords net left names c.loop-word.taken.names) next c.loop-word.invariant in
    let here : slice_get net.state i ≡ Some word =
    subst (λ ks. slice_get ks i ≡ Some word) c.as_slice-state.ensures (slice_get-get_or state i word c.loop-word-test.true ∙ ap Some (sym c.word-item.is)) in
    let found = c.requires.whole.state.only i word here in
    let within : word < length net.leaves = slice_get_within net.leaves word found.0 found.1 in
    let k : c.number-number.result ≡ word = c.number-number.ensures in
    let leaf = c.index-leaves-number.result in
    let read = subst (λ (j : ℕ). leaf ≡ get_or leaves j leaf) k c.index-leaves-number.is in
    let read_there = subst (λ (ls : List Leaf). leaf ≡ get_or ls word leaf) c.as_slice-leaves.ensures read in
    let at : slice_get net.leaves word ≡ Some leaf = slice_get-get_or net.leaves word leaf within ∙ ap Some (sym read_there) in
    let name = c.in_ok-name.name in
    let takes = subst (λ (l : Leaf). TakesName c.loop-word.taken.names c.take_name.new.taken.names (base_name l.path) name) (sym c.index-leaves-number.is) c.in_ok-name.ensures in
    subst (λ (j : ℕ). NamedWords net rest (set names j (Some name)) c.take_name.new.taken.names) (sym k)
    (words_more net c.requires.whole word leaf rest names c.loop-word.taken.names c.take_name.new.taken.names name at so_far takes)
