-- What reads of standard input gave, and what a watch of it comes to.
use Rattle.std.proofs.Common.{◌≡◌, ℕ, List, [], ◌∷◌, ◌++◌, length, Some, Err, refl, sym, ap, subst, ◌∙◌, append_assoc, append-nil, arith}
use Rattle.hy_base.specs.Counts.{Rose}
use Rattle.hy_base.specs.Shelf.{FailsToOpen, nothing, more}
use Rattle.hy_base.specs.Talks.{opened, gave, at_end, not_read}
use Rattle.hy_base.specs.declared.shelf.Shelf.{Ghosts as ShelfGhosts}
use Rattle.hy_base.specs.declared.sink.Sink.{Ghosts}
use Rattle.hy_files.specs.declared.fault.FileFault.TheVariants.{Open, Read}
use Rattle.rv_core.specs.Endings.{Spec}
use Rattle.rv_core.specs.Held.{specs_of}
use Rattle.rv_core.specs.Seen.{held}
use Rattle.rv_core.specs.declared.rv.Rv.{Rv}
use Rattle.hy_run.specs.declared.refusal.Refusal.TheVariants.{File}
use Rattle.rv_watch.specs.At.{IsBehind, IsFinished, IsFresh, IsStopped, IsWatched, at_line, short, at_last, at_end as at_the_end, short_last}
use Rattle.rv_watch.specs.Courses.{WatchAnswer, start}
use Rattle.rv_watch.specs.Input.{IsGiven, IsWhole, input_name, unopened, unread, stopped, last, through, spent, spent_last}
use Rattle.rv_watch.specs.declared.course.Terms.{Terms}
use Rattle.rv_watch.specs.declared.course.Watcher.{Watcher}

-- ---- what reads gave

module _ {S : Type 0} (g : ShelfGhosts S) (old : S) where
  pub given-first : (new : S) → g.called old (opened input_name) new → (g.tells old → g.file old input_name ≡ Some (g.rest new))
      → IsGiven g old [] new
  given-first new called whole = record {
    begun = record { opening = new; opened = called; given = nothing };
    front = whole;
  }

  pub given-more : (mid new : S) (bytes piece : List ℕ) → IsGiven g old bytes mid → g.called mid (gave piece) new
      → (g.tells old → g.rest mid ≡ piece ++ g.rest new) → IsGiven g old (bytes ++ piece) new
  given-more mid new bytes piece is called moved = record {
    begun = record { opening = is.begun.opening; opened = is.begun.opened; given = more bytes piece mid new is.begun.given called };
    front = λ t. is.front t ∙ ap (λ r. Some (bytes ++ r)) (moved t) ∙ ap Some (sym (append_assoc bytes piece (g.rest new)));
  }

  pub whole-last : (mid new : S) (bytes : List ℕ) → IsGiven g old bytes mid → g.called mid at_end new → (g.tells old → g.rest mid ≡ [])
      → IsWhole g old bytes new
  whole-last mid new bytes is called ended = record {
    said = record { last = mid; begun = is.begun; called = called };
    all = λ t. is.front t ∙ ap (λ r. Some (bytes ++ r)) (ended t) ∙ ap Some (append-nil bytes);
  }

-- ---- what that comes to

module _ (terms : Terms) (specs : List Spec) {E : Type 0} (g : Ghosts E) (from err : E) {S : Type 0} (shelves : ShelfGhosts S) (old : S) where
  abbrev Comes : S → WatchAnswer → Type 0
  Comes new answer = IsWatched terms specs g from shelves old new err answer

  pub watched-unopened : (new : S) (answer : WatchAnswer) → from ≡ err → FailsToOpen shelves old new input_name → answer ≡ Err (File 1 Open)
      → Comes new answer
  watched-unopened new answer same fails e =
      let P : WatchAnswer → Type 0 = Comes new in
      subst P (sym e) ([], unopened fails, sym same)

  pub watched-unread : (w : Watcher) (front bytes : List ℕ) (mid new : S) (answer : WatchAnswer) → IsBehind terms specs g from err w front bytes
      → IsGiven shelves old bytes mid → shelves.called mid not_read new → Rose (shelves.read_faults old) (shelves.read_faults new)
      → (shelves.is_sound old → ⊥) → answer ≡ Err (File 1 Read) → Comes new answer
  watched-unread w front bytes mid new answer b is called counted unsound e =
      let P : WatchAnswer → Type 0 = Comes new in
      subst P (sym e) (
        b.course.said,
        unread bytes front b.lines b.course
            (record { said = record { last = mid; begun = is.begun; called = called }; counted = counted; unsound = unsound })
            b.ended b.small b.taken,
        b.at.heard,
      )

  pub watched-stopped : (bytes piece : List ℕ) (mid new : S) (answer : WatchAnswer) → IsGiven shelves old bytes mid
      → shelves.called mid (gave piece) new → IsGiven shelves old (bytes ++ piece) new
      → IsStopped terms specs g from err bytes piece answer → Comes new answer
  watched-stopped bytes piece mid new _ is called given (at_line lines rest line c answer still_open here grown taken stops heard) =
      (c.said, stopped mid bytes piece line lines rest c answer is called given still_open here grown taken stops, heard)
  watched-stopped bytes piece mid new _ is called given (short lines rest front c here taken heard) =
      (c.said, spent (bytes ++ piece) front lines rest c given here taken, heard)

  pub watched-whole : (bytes : List ℕ) (new : S) (answer : WatchAnswer) → IsWhole shelves old bytes new
      → IsFinished terms specs g from err bytes answer → Comes new answer
  watched-whole bytes new _ whole (at_last lines line c answer ended small taken stops heard) =
      (c.said, last bytes line lines c answer whole ended small taken stops, heard)
  watched-whole bytes new _ whole (at_the_end c answer taken through_is heard) = (c.said, through bytes c answer whole taken through_is, heard)
  watched-whole bytes new _ whole (short_last lines rest c here taken heard) = (c.said, spent_last bytes lines rest c whole here taken, heard)

-- ---- before the first read

pub behind-first : (terms : Terms) {E : Type 0} (g : Ghosts E) (err : E) (rv : Rv) (w : Watcher) (front : List ℕ)
    → w ≡ record { rv = rv; lines = 0; since = 0 } → front ≡ [] → IsFresh terms rv
    → IsBehind terms (specs_of (held rv)) g err err w front []
behind-first terms {E} g err rv w front is empty fresh =
    let P : Watcher → Type 0 = λ x. IsBehind terms (specs_of (held rv)) g err err x front [] in
    let first : Watcher = record { rv = rv; lines = 0; since = 0 } in
    subst P (sym is) (record {
      lines = [];
      course = start;
      ended = ap (λ f. f ∷ []) (sym empty);
      small = let none = ap length empty in omega (arith, none);
      taken = refl;
      at = record {
        rule = fresh.rule;
        dropping = fresh.dropping;
        specs_are = refl;
        stands = fresh.stands;
        lines = refl;
        since = refl;
        heard = refl;
      };
    })
