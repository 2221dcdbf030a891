-- Watches and what is kept for them, at a place, as contracts see them.
use Rattle.std.proofs.Common.{◌≡◌, ℕ, zero, suc, List, [], ◌∷◌, slice_get, Some, sym, ap, ◌∙◌}
use Rattle.std.specs.Option.{option_map}
use Rattle.std.proofs.lemmas.Option.{slice_get-map, same_Some}
use Rattle.fin_monitor.specs.Machines.{Machine}
use Rattle.trace_trie.specs.Numbered.{Numbered}
use Rattle.rv_core.specs.declared.watch.Watch.{Watch}
use Rattle.rv_core.specs.Keeping.{kept_at}
use Rattle.rv_core.specs.Seen.{watched, watched_by}

pub seen-at : (watches : List Watch) (i : ℕ) (w : Watch) → slice_get watches i ≡ Some w
    → slice_get (watched_by watches) i ≡ Some (watched w)
seen-at watches i w at = slice_get-map watched watches i ∙ ap (option_map watched) at

pub same-watched : (watches : List Watch) (i : ℕ) (w : Watch) (m : Machine)
    → slice_get watches i ≡ Some w → slice_get (watched_by watches) i ≡ Some m → watched w ≡ m
same-watched watches i w m at there = same_Some _ _ (sym (seen-at watches i w at) ∙ there)

pub kept-there : (kept : List (List Numbered)) (i : ℕ) (list : List Numbered)
    → slice_get kept i ≡ Some list → kept_at kept i ≡ list
kept-there [] i list at = absurd (cc)
kept-there (x ∷ xs) zero list at = let same : x ≡ list = cc in same
kept-there (x ∷ xs) (suc i) list at = kept-there xs i list at
