-- The message of valid words is never refused, and no message is refused in two ways.
use Rattle.std.proofs.Common.{◌≡◌, ℕ, List, length, ap, subst, ap₂, inl, inr, arith}
use Rattle.std.proofs.lemmas.Bool.{cases_order}
use Rattle.symbols.specs.Symbols.{Symbols, FirstAbove}
use Rattle.words.specs.Raw.{Raw, AllValid}
use Rattle.blocks.specs.Blocks.{BlockRefused}
use Rattle.blocks.specs.declared.refusal.BlockRefusal.{BlockRefusal}
use Rattle.blocks.proofs.Once as of_block
use Rattle.messages.specs.Messages.{group, block_at, MessageOf, Readable, FirstRefused, MessageRefused}
use Rattle.messages.specs.declared.refusal.MessageRefusal.{MessageRefusal}
use Rattle.messages.specs.declared.refusal.MessageRefusal.TheVariants.{Symbol, Block}
use Rattle.messages.proofs.Promised.{group_long, group_valid}

-- the first number that is no symbol

all_symbols : (xs : List ℕ) (p : ℕ) → Symbols xs → FirstAbove xs p → ⊥
all_symbols xs p s f = let a = f.above in let b = s p f.within in omega arith

one_above : (xs : List ℕ) (p q : ℕ) → FirstAbove xs p → FirstAbove xs q → p ≡ q
one_above xs p q f g =
    elim (cases_order p q) [
      | inl e ↦ e
      | inr (inl l) ↦ (let a = f.above in let b = g.earlier p l in absurd (omega arith))
      | inr (inr l) ↦ (let a = g.above in let b = f.earlier q l in absurd (omega arith))
    ]

-- the first block that has no words

readable_unrefused : (x : ℕ) (e : BlockRefusal) → Readable x → BlockRefused x e → ⊥
readable_unrefused x e r q = of_block.never_both r.0 x e r.1 r.2 r.3 q

one_block : (xs : List ℕ) (b c : ℕ) (e f : BlockRefusal) → FirstRefused xs b e → FirstRefused xs c f → b ≡ c
one_block xs b c e f p q =
    elim (cases_order b c) [
      | inl s ↦ s
      | inr (inl l) ↦ absurd (readable_unrefused (block_at xs b) e (q.earlier b l) p.refused)
      | inr (inr l) ↦ absurd (readable_unrefused (block_at xs c) f (p.earlier c l) q.refused)
    ]

one_first : (xs : List ℕ) (b c : ℕ) (e f : BlockRefusal) → FirstRefused xs b e → FirstRefused xs c f → Block b e ≡ Block c f
one_first xs b c e f p q =
    let s = one_block xs b c e f p q in
    ap₂ Block s (of_block.one_refusal (block_at xs c) e f (subst (λ (k : ℕ). BlockRefused (block_at xs k) e) s p.refused) q.refused)

pub one_refusal : (xs : List ℕ) (e f : MessageRefusal) → MessageRefused xs e → MessageRefused xs f → e ≡ f
one_refusal xs (Symbol p) (Symbol q) a b = ap Symbol (one_above xs p q a b)
one_refusal xs (Symbol p) (Block c f) a b = absurd (all_symbols xs p b.symbols a)
one_refusal xs (Block b e) (Symbol q) a d = absurd (all_symbols xs q a.symbols d)
one_refusal xs (Block b e) (Block c f) a d = one_first xs b c e f a d

-- the message of valid words

pub never_both : (ws : List Raw) (xs : List ℕ) (e : MessageRefusal) → length ws ≡ 80 → AllValid ws → MessageOf ws xs → MessageRefused xs e → ⊥
never_both ws xs (Symbol p) n v m r = all_symbols xs p m.message.symbols r
never_both ws xs (Block b e) n v m r =
    of_block.never_both (group ws b) (block_at xs b) e (group_long ws 20 b n r.within) (group_valid ws b v) (m.blocks b r.within) r.refused
