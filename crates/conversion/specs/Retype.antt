-- Records and queries with their references rewritten (document 02 [7]: "references follow").
--     retype_rule f r         a rule's record with f of its source and destination, all else as it was
--     retype_constraint f r   a constraint's record with f of its arguments and of each type of its list, all else as it was
--     retype_query f q        a query with f of its source and destination
use Rattle.std.specs.Prelude.{ℕ, List, ◌∷◌, ◌++◌, map, get_or, take, drop}
use Rattle.format.specs.Bytes.{word_at, words, put_word, put_words}
use Rattle.decision.specs.declared.Query.{Query}

unfoldable pub retype_rule : (ℕ → ℕ) → List ℕ → List ℕ
retype_rule f r = take 2 r ++ put_word (f (word_at r 2)) (put_word (f (word_at r 4)) (drop 6 r))

unfoldable pub retype_constraint : (ℕ → ℕ) → List ℕ → List ℕ
retype_constraint f r =
    take 6 r ++ put_word (f (word_at r 6)) (put_word (f (word_at r 8)) (get_or r 10 0 ∷ put_words (map f (words (drop 11 r)))))

unfoldable pub retype_query : (ℕ → ℕ) → Query → Query
retype_query f q =
    record { source = f q.source; dest = f q.dest; class = q.class; action = q.action; switches = q.switches }
