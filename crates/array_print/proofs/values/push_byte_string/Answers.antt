use Rattle.std.proofs.Common.{Option, ◌≡◌, ◌+◌, ◌<◌, ◌++◌, ◌∷◌, ℕ, List, [], codes, flat_map, length, take, drop, get_or, refl, subst, ap, ◌∙◌, sym, append_assoc, arith, rules, take_all, take-append-drop}
use Rattle.std.proofs.lemmas.Grind.{flat_map-append}
use Rattle.array_print.proofs.Words.{SendsPart, append-nil, escaped, take_more, part-longer}
use Rattle.array_print.specs.Words.{without_nuls}
use Rattle.array_print.proofs.PushLaws.{failed, held-more, held-same, part-after, pushes-same}
use Rattle.array_print.proofs.PushLaws as pushed
use Rattle.array_print.proofs.values.push_byte_string.Goals as goal

-- the mark, and the texts of the first `k` bytes
abbrev so_far : List ℕ → ℕ → List ℕ
so_far bytes k = codes "b'" ++ flat_map escaped (take k bytes)

one-more : (bytes : List ℕ) (k byte : ℕ) → k < length bytes → byte ≡ get_or bytes k 0 → so_far bytes k ++ escaped byte ≡ so_far bytes (k + 1)
one-more bytes k byte below is =
    ap (λ b. so_far bytes k ++ escaped b) is
    ∙ ap (λ t. codes "b'" ++ (flat_map escaped (take k bytes) ++ t)) (sym (append-nil (escaped (get_or bytes k 0))))
    ∙ ap (λ t. codes "b'" ++ t) (sym (flat_map-append escaped (take k bytes) (get_or bytes k 0 ∷ [])) ∙ ap (flat_map escaped) (sym (take_more bytes k 0 below)))

-- no more bytes will be sent
cut : (w w' : Option (List ℕ)) (old bytes : List ℕ) (k : ℕ) → SendsPart w w' (old ++ so_far bytes k) → SendsPart w w' (old ++ (codes "b'" ++ flat_map escaped bytes ++ codes "'"))
cut w w' old bytes k part =
    let rest = flat_map escaped (drop k bytes) in
    let whole : so_far bytes k ++ (rest ++ codes "'") ≡ codes "b'" ++ flat_map escaped bytes ++ codes "'" =
    sym (append_assoc (so_far bytes k) rest (codes "'"))
    ∙ ap (λ t. (codes "b'" ++ t) ++ codes "'") (sym (flat_map-append escaped (take k bytes) (drop k bytes)) ∙ ap (flat_map escaped) (take-append-drop k bytes)) in
    subst (λ t. SendsPart w w' (old ++ t)) whole (part-longer w w' old (so_far bytes k) (rest ++ codes "'") part)

pub returns-in_err-push : goal.returns-in_err-push
returns-in_err-push g c =
    let part = cut _ _ c.args.out.now.text.items (without_nuls c.args.bytes.now) 0 c.in_err-push.ensures.err in
    record { ok = search rules; err = failed _ part; room = omega arith }

pub returns-in_err-push_escaped : goal.returns-in_err-push_escaped
returns-in_err-push_escaped g c =
    let items = c.without_nuls-byte-items.result.now in
    let i = c.loop-byte.byte-index in
    let below : i < length items = omega (arith, c.loop-byte-test.true) in
    let part = part-after c.loop-byte.invariant _ _ c.in_err-push_escaped.ensures.err in
    let more = subst (λ t. SendsPart (g.W.Write.contents c.args.writer.now) (g.W.Write.contents c.push_escaped.new.writer) (c.args.out.now.text.items ++ t)) (one-more items i (get_or items i 0) below refl) part in
    let all = subst (λ bs. SendsPart (g.W.Write.contents c.args.writer.now) (g.W.Write.contents c.push_escaped.new.writer) (c.args.out.now.text.items ++ (codes "b'" ++ flat_map escaped bs ++ codes "'"))) c.without_nuls-byte-items.ensures (cut _ _ c.args.out.now.text.items items (i + 1) more) in
    record { ok = search rules; err = failed _ all; room = omega arith }

pub loop-byte-preserved : goal.loop-byte-preserved
loop-byte-preserved g c =
    let items = c.without_nuls-byte-items.result.now in
    let i = c.loop-byte.byte-index in
    let below : i < length items = omega (arith, c.loop-byte-test.true) in
    held-same (one-more items i (get_or items i 0) below refl) (held-more c.loop-byte.invariant c.in_ok-push_escaped.ensures.ok)

pub returns : goal.returns
returns g c =
    let items = c.without_nuls-byte-items.result.now in
    let all : take c.loop-byte.byte-index items ≡ without_nuls c.args.bytes.now = take_all c.loop-byte.byte-index items (omega (arith, c.loop-byte-test.false)) ∙ c.without_nuls-byte-items.ensures in
    pushes-same (ap (λ bs. (codes "b'" ++ flat_map escaped bs) ++ codes "'") all) (pushed.then c.loop-byte.invariant c.push_byte.ensures)
