-- `fill_alike` meets its contract: the groups before are filed by their keys, and their slots filled. Assumes nothing.
use native.Mathlib.Omega.{arith}
use Prim.Native.Nat.{ℕ, ◌<◌}
use mathlib.Core.Path.{◌≡◌, refl, ap, subst, ◌∙◌}
use lib.ListN.{length, length-set}
use Rattle.format.specs.Policy.{policy_of}
use Rattle.format.proofs.Images.{group_count}
use Rattle.image.specs.Inner.Alike.{key_of, key_at, Fills}
use Rattle.image.proofs.AlikeLaws.{placed_turn, placed_least, placed_most, filed_none, filed_next, fills_none, fills_next}
use Rattle.image.proofs.twins.fill_alike.Goals as goal

pub loop-k-init : goal.loop-k-init
loop-k-init c = record { heads = refl; before = refl; filed = filed_none _ 1024 256; filled = fills_none _ _ }

pub group_at-part-requires : goal.group_at-part-requires
group_at-part-requires c = let t = placed_turn _ _ _ c.requires.0 c.loop-k.k (omega arith) in (t.placed, t.own)

pub key_of-key-requires : goal.key_of-key-requires
key_of-key-requires c =
    let t = placed_turn _ _ _ c.requires.0 c.loop-k.k (omega arith) in
    rw c.group_at-part.ensures (placed_least _ _ _ t.placed c.loop-k.k t.own, placed_most _ _ _ t.placed c.loop-k.k t.own)

pub find_alike-earlier-requires : goal.find_alike-earlier-requires
find_alike-earlier-requires c =
    let t = placed_turn _ _ _ c.requires.0 c.loop-k.k (omega arith) in
    let key_is = c.key_of-key.ensures.0 ∙ ap key_of c.group_at-part.ensures in
    (record { placed = t.placed; filed = c.loop-k.invariant.filed; own = t.own; key_is = key_is }, c.group_at-part.ensures)

pub settle-requires : goal.settle-requires
settle-requires c =
    let t = placed_turn _ _ _ c.requires.0 c.loop-k.k (omega arith) in
    (λ g e. omega (arith, t.few, (c.find_alike-earlier.ensures.alike g e).0), omega (arith, t.few), t.few)

pub file-requires : goal.file-requires
file-requires c = (c.key_of-key.ensures.1, (placed_turn _ _ _ c.requires.0 c.loop-k.k (omega arith)).few)

pub loop-k-preserved : goal.loop-k-preserved
loop-k-preserved c =
    let t = c.loop-k in
    let turn = placed_turn _ _ _ c.requires.0 t.k (omega arith) in
    let gs = (policy_of c.args.image.now).groups in
    let key = c.key_of-key.result in
    let key_is : key ≡ key_at gs t.k = c.key_of-key.ensures.0 ∙ ap key_of c.group_at-part.ensures in
    let more : t.k < length gs = omega (arith, turn.own, group_count c.args.image.now) in
    record {
      heads = ap length c.file.ensures.0 ∙ length-set t.heads key _ ∙ t.invariant.heads;
      before = ap length c.file.ensures.1 ∙ length-set t.before t.k _ ∙ t.invariant.before;
      filed =
          rw (c.file.ensures.0, c.file.ensures.1)
          (filed_next gs t.k t.heads t.before t.invariant.filed key key_is (omega (arith, c.key_of-key.ensures.1)) (omega (arith, turn.few)));
      filled =
          rw c.settle.ensures
          (fills_next gs _ t.alike c.find_alike-earlier.result t.k more (omega (arith, turn.few)) c.find_alike-earlier.ensures t.invariant.filled);
    }

pub returns : goal.returns
returns c =
    let t = c.loop-k in
    let a = c.args in
    let e : t.k ≡ a.count = omega arith in
    subst (λ (n : ℕ). Fills (policy_of a.image.now).groups n a.alike.now t.alike) e t.invariant.filled
