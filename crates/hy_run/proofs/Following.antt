-- What a run does whose words are a command.
use Rattle.std.proofs.Common.{◌≡◌, ◌⊎◌, ℕ, suc, List, [], ◌∷◌, length, Err, inl, inr, refl, ap, subst}
use Rattle.hy_base.specs.Shelf.{Files}
use Rattle.hy_base.specs.declared.shelf.Shelf.{Ghosts}
use Rattle.hy_run.specs.Laws.{AreSettled, AreTexts}
use Rattle.hy_run.specs.Names.{Text}
use Rattle.hy_run.specs.Reads.{HaveBytes}
use Rattle.hy_run.specs.Rules.{Rules}
use Rattle.hy_run.specs.Runs.{Answer, Comes, Follows, out_text, unworded, short, worded}
use Rattle.hy_run.specs.declared.refusal.Refusal.TheVariants.{Memory}
use Rattle.hy_run.proofs.Settled.{answers_texts}
use Rattle.hy_run.proofs.Shelves.{sound_gives}

as_long : (told : Files) (names files : List (List ℕ)) → HaveBytes told names files → length names ≡ length files
as_long told [] [] have = refl
as_long told [] (bytes ∷ files) have = absurd have
as_long told (name ∷ names) [] have = absurd have
as_long told (name ∷ names) (bytes ∷ files) (has, have) = ap suc (as_long told names files have)

module _ {Q V F : Type 0} (rules : Rules Q V F) (settled : AreSettled rules) {S : Type 0} (g : Ghosts S) where
  pub follows_command : (words files : List Text) (question : Q) (old new : S) (answer : Answer V F) (text : List ℕ)
      → rules.asks words question files → Comes rules g words old new answer text
      → ((answer ≡ Err Memory) × (text ≡ []) × (old ≡ new))
      ⊎ ((names : List Text) × Follows rules g old new question files names answer × (text ≡ out_text rules question names answer))
  follows_command words files question old new _ _ asks (unworded none same) = absurd (none question files asks)
  follows_command words files question old new _ _ asks (short same) = inl (refl, refl, same)
  follows_command words files question old new _ _ asks (worded other others names answer also follows) =
      let (asked, named) = settled.command words others files other question also asks in
      let P : Q → List Text → Type 0 = λ q fs. Follows rules g old new q fs names answer × (out_text rules other names answer ≡ out_text rules q names answer) in
      let (same, printed) = subst (λ fs. P question fs) named (subst (λ q. P q others) asked (follows, refl)) in
      inr (names, same, printed)

  pub sound_verdict : (words files : List Text) (question : Q) (contents : List (List ℕ)) (names : List Text) (old new : S) (answer : Answer V F) (text : List ℕ)
      → rules.asks words question files → g.tells old → g.is_sound old → HaveBytes (g.file old) files contents
      → AreTexts rules question contents names → Comes rules g words old new answer text
      → (answer ≡ Err Memory) ⊎ rules.comes question contents names answer
  sound_verdict words files question contents names old new answer text asks tells sound have are comes =
      elim (follows_command words files question old new answer text asks comes) [
        | inl (memory, empty, same) ↦ inl memory
        | inr (others, follows, printed) ↦
            answers_texts rules settled question files contents follows.given [] contents [] names others answer (as_long (g.file old) files contents have) refl
            (sound_gives g files contents old new follows.given tells sound have follows.read) are follows.decided
      ]
