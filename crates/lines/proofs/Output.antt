-- However reads cut the input, the output is the same: claim AnyReads. Assumes nothing.
use Prim.Native.Nat.{ℕ, ◌<◌}
use native.Mathlib.Omega.{arith}
use mathlib.Core.Path.{◌≡◌, refl, sym, ap, ◌∙◌}
use Rattle.std.specs.Prelude.{Option, None, Some}
use mathlib.Core.List.{List, [], ◌∷◌, ◌++◌, append_assoc, append-nil, flatten}
use lib.ListN.{length, take, drop}
use Rattle.format.specs.declared.Refusal.{Refusal}
use Rattle.format.specs.Check.{image_in, check_front, leading}
use Rattle.lines.specs.Lines.{lines}
use Rattle.lines.specs.Output.{image_size, rest_of, ending, printed, served, ran}
use Rattle.lines.specs.Claims.{AnyReads}
use Rattle.lines.proofs.Queries.{lines_few, rest_length, lines_append, ending_append}
use Rattle.lines.proofs.Image.{image_taken, image_size_lem, image_front}

pub served_all : (l kept : List ℕ) (cs : List (List ℕ)) → length kept < 12 → served l kept cs ≡ lines l (kept ++ flatten cs) ++ ending (kept ++ flatten cs)
unfolding served flatten
served_all l kept [] h = rw (append-nil kept, lines_few l kept h) refl
served_all l kept (c ∷ cs) h =
    let b = kept ++ c in
    let t = flatten cs in
    ap (λ x. lines l b ++ x) (served_all l (rest_of b) cs (omega (arith, rest_length (kept ++ c))))
    ∙ sym (append_assoc (lines l b) (lines l (rest_of b ++ t)) (ending (rest_of b ++ t)))
    ∙ ap (λ x. x ++ ending (rest_of b ++ t)) (sym (lines_append l b t))
    ∙ ap (λ x. lines l (b ++ t) ++ x) (sym (ending_append b t))
    ∙ ap (λ x. lines l x ++ ending x) (append_assoc kept c t)

pub any_reads : AnyReads
unfolding ran printed
any_reads i cs e = go (check_front i) refl
  where
    go : (f : Option Refusal) → check_front i ≡ f → ran i cs ≡ printed i
    go (Some f) r = rw (image_taken i, r) refl
    go None r =
        rw (image_taken i, r)
        (served_all (leading (take (image_size i) i)) [] cs (omega arith)
        ∙ ap (λ l. lines l (flatten cs) ++ ending (flatten cs)) (image_front i r)
        ∙ ap (λ q. lines (image_in i) q ++ ending q) (e ∙ ap (λ n. drop n i) (image_size_lem i r)))
