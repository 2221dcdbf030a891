use Rattle.std.proofs.Common.{◌≡◌, ℕ, ◌∙◌, ◌&&◌, ◌++◌, Bool, true, false, List, Some, refl, sym, ap}
use Rattle.std.specs.Prelude.{slice_get, slice_set}
use Rattle.std.proofs.lemmas.Bool.{and_from, not_from_false}
use Rattle.aig_order.proofs.Reach.{read-at}
use Rattle.aiger_body.specs.declared.header.Header.{Header}
use Rattle.aiger_body.specs.Texts.{is_ended, is_feed, line_text}
use Rattle.aiger_body.specs.Symbols.{Symbol, symbol_of, is_symbol}
use Rattle.aiger_read.specs.Naming.{is_marked, is_kept, place_of, with_name}
use Rattle.aiger_read.proofs.names.Reading.keep.Goals as goal

-- a symbol line of what is not marked is kept
kept-so : (h : Header) (line : List ℕ) (marks : List Bool) (s : Symbol) → symbol_of (line_text line) ≡ Some s → is_ended is_feed line ≡ true → is_symbol h (Some s) ≡ true → is_marked h marks (Some s) ≡ false → is_kept h line marks ≡ true
kept-so h line marks s said whole good fresh =
    and_from (is_ended is_feed line && is_symbol h (symbol_of (line_text line))) _
    (and_from (is_ended is_feed line) _ whole (ap (is_symbol h) said ∙ good))
    (not_from_false _ (ap (is_marked h marks) said ∙ fresh))

pub returns : goal.returns
returns c =
    let h = c.args.header.now in
    let line = c.args.line.now in
    let old = c.args.self.now in
    let s : Symbol = record { kind = c.in-Some.symbol.kind; number = c.in-Some.symbol.number; name = c.in-Some.symbol.name.now } in
    let said : symbol_of (line_text line) ≡ Some s = ap symbol_of (sym c.text_of.ensures) ∙ sym c.in-Some.ensures in
    let fresh : is_marked h old.named (Some s) ≡ false = sym (read-at old.named (place_of h s) c.at.result.now false (ap (λ i. slice_get old.named i) (sym c.place-place.ensures) ∙ c.at.ensures)) ∙ c.if-at.false in
    record {
      s = s;
      said = said;
      kept = kept-so h line old.named s said (sym c.if-not-is_whole.ensures) (sym c.if-not-is_symbol.ensures) fresh;
      at = refl;
      line_same = refl;
      named = c.set.ensures ∙ ap (λ i. slice_set old.named i true) c.place-place.ensures;
      names = c.put.ensures ∙ ap (λ n. with_name s.kind s.number n old.names) (c.in_ok-extend.ensures.added ∙ ap (λ l. l ++ s.name) c.new-name.ensures);
    }
