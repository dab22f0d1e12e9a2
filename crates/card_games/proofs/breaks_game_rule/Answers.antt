-- Each exit is a clause of the rule.
use Prim.Native.Nat.{ℕ, ◌<◌}
use mathlib.Core.Path.{◌≡◌, sym, ap, ◌∙◌}
use mathlib.Core.Bool.{true, not}
use mathlib.Core.List.{List}
use native.Mathlib.Omega.{arith}
use borrow.Author.Tests.{lt-ltb}
use Rattle.card_model.specs.Layout.{table_of}
use Rattle.card_model.specs.Entries.{first_block, is_game, wrong_entry, entry_at}
use Rattle.card_model.specs.Files.{chain, bad_chain, or_empty, rising}
use Rattle.card_games.specs.Rules.{GoodChains}
use Rattle.card_games.proofs.GameLaws.{GameChain, chain-of-game, not-game, later-game, first-not-0, too_large, else-rising}
use Rattle.card_games.proofs.breaks_game_rule.Goals as goal
use Rattle.card_games.proofs.breaks_game_rule.Goals.{then-game_before-via-then-game_before, then-game_before-via-else-game_before+then-first_block-ne0}

-- a game's chain, where no row before refuses the card
game-chain : (table : List ℕ) (directory : List (List ℕ)) (i : ℕ) {s : List ℕ} → s ≡ entry_at directory i → GoodChains table directory → i < 208
    → is_game s ≡ true → first_block s ≡ 0 → GameChain table s
game-chain table directory i e good below game from_0 =
    chain-of-game _ _ game (ap wrong_entry e ∙ good.fields i below) (ap (bad_chain table) e ∙ good.chains i below) from_0

pub returns-then-not-is_game : goal.returns-then-not-is_game
returns-then-not-is_game c = not-game _ _ c.entry_at-entry.ensures _ (sym c.is_game.ensures ∙ c.if-not-is_game.true)

pub returns-then-game_before : goal.returns-then-game_before
returns-then-game_before c =
    let is-entry = c.entry_at-entry.ensures in
    let game = sym c.is_game.ensures ∙ c.if-not-is_game.false in
    elim c.then-game_before.branch [
      | then-game_before-via-then-game_before w ↦ later-game _ _ is-entry _ game (sym c.game_before.ensures ∙ w.if-game_before.true)
      | then-game_before-via-else-game_before+then-first_block-ne0 w ↦
          first-not-0 _ _ is-entry _ game (sym c.game_before.ensures ∙ w.if-game_before.false) (λ z. w.if-first_block-ne0.true (w.first_block.ensures ∙ z))
    ]

pub rises-requires-clause-chained : goal.rises-requires-clause-chained
rises-requires-clause-chained c =
    let k = game-chain _ _ _ c.entry_at-entry.ensures c.requires.good_chains c.requires.below (sym c.is_game.ensures ∙ c.if-not-is_game.false) (sym c.first_block.ensures ∙ c.if-first_block-ne0.false) in
    rw c.size-blocks.ensures k.there

pub returns-then-blocks-gt-MOST : goal.returns-then-blocks-gt-MOST
returns-then-blocks-gt-MOST c =
    lt-ltb _ _ c.if-blocks-gt-MOST.true
    ∙ too_large _ _ c.entry_at-entry.ensures _ (sym c.is_game.ensures ∙ c.if-not-is_game.false) (sym c.game_before.ensures ∙ c.if-game_before.false)
    (sym c.first_block.ensures ∙ c.if-first_block-ne0.false) (omega (arith, c.size-blocks.ensures))

pub returns-else-blocks-gt-MOST : goal.returns-else-blocks-gt-MOST
returns-else-blocks-gt-MOST c =
    let is-entry = c.entry_at-entry.ensures in
    let game = sym c.is_game.ensures ∙ c.if-not-is_game.false in
    let from_0 = sym c.first_block.ensures ∙ c.if-first_block-ne0.false in
    let k = game-chain _ _ _ is-entry c.requires.good_chains c.requires.below game from_0 in
    let q = c.size-blocks.ensures in
    let r = c.rises.ensures ∙ ap (λ (m : ℕ). rising (or_empty (chain (table_of c.args.card.now) m 0))) q ∙ ap (λ (l : List ℕ). rising l) k.file in
    ap not r ∙ else-rising _ _ is-entry _ game (sym c.game_before.ensures ∙ c.if-game_before.false) from_0 (omega (arith, q))
