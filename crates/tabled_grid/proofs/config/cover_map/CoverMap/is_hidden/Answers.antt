use Rattle.tabled_grid.proofs.Common.{◌∙◌, Cover, CountsBlock, In, IsCoverOf, IsFew, IsMany, ap, area, arith, counts_of, get_or, get_or-take, nat_lt, subst, sym}
use Rattle.tabled_grid.proofs.CoverCounts.{hidden-in, number_in, number_within}
use Rattle.tabled_grid.proofs.config.cover_map.CoverMap.is_hidden.Goals as goal

pub offset_bounds-counts-k : goal.offset_bounds-counts-k
offset_bounds-counts-k c =
    let cells = c.self.inside.block in
    let here : In cells c.args.pos = subst (λ (cover : Cover). In cover.block c.args.pos) (sym c.self.view_is) c.requires.inside in
    let few : IsFew c.in-Few.counts cells = subst (λ k. CountsBlock k cells) c.in-Few.is c.self.invariant.counts in
    omega (arith, number_within cells c.args.pos here, few.few)

pub bounds-counts-k : goal.bounds-counts-k
bounds-counts-k c =
    let cells = c.self.inside.block in
    let here : In cells c.args.pos = subst (λ (cover : Cover). In cover.block c.args.pos) (sym c.self.view_is) c.requires.inside in
    let few : IsFew c.in-Few.counts cells = subst (λ k. CountsBlock k cells) c.in-Few.is c.self.invariant.counts in
    omega (arith, number_within cells c.args.pos here, few.few)

pub index-requires : goal.index-requires
index-requires c =
    let cells = c.self.inside.block in
    let here : In cells c.args.pos = subst (λ (cover : Cover). In cover.block c.args.pos) (sym c.self.view_is) c.requires.inside in
    let many : IsMany c.in-Many.counts.items cells = subst (λ k. CountsBlock k cells) c.in-Many.is c.self.invariant.counts in
    omega (arith, number_within cells c.args.pos here, many.size, c.in-Many.counts.ok)

pub returns-in-Few : goal.returns-in-Few
returns-in-Few c =
    let a = c.self.inside in
    let cover : Cover = record { block = a.block; hiders = counts_of (area a.block.size) a.counts } in
    let here : In a.block c.args.pos = subst (λ (k : Cover). In k.block c.args.pos) (sym c.self.view_is) c.requires.inside in
    record {
      hidden = λ m is.
          sym (ap (nat_lt 0) (get_or-take (area a.block.size) c.in-Few.counts (number_in a.block c.args.pos) 0 (number_within a.block c.args.pos here)))
          ∙ ap (λ counts. nat_lt 0 (get_or (counts_of (area a.block.size) counts) (number_in a.block c.args.pos) 0)) (sym c.in-Few.is)
          ∙ hidden-in m cover c.args.pos 0 (subst (IsCoverOf m) (sym c.self.view_is) is) here;
    }

pub returns-in-Many : goal.returns-in-Many
returns-in-Many c =
    let a = c.self.inside in
    let cover : Cover = record { block = a.block; hiders = counts_of (area a.block.size) a.counts } in
    let here : In a.block c.args.pos = subst (λ (k : Cover). In k.block c.args.pos) (sym c.self.view_is) c.requires.inside in
    record {
      hidden = λ m is.
          ap (nat_lt 0) c.index.ensures
          ∙ ap (λ counts. nat_lt 0 (get_or (counts_of (area a.block.size) counts) (number_in a.block c.args.pos) c.index.result.now)) (sym c.in-Many.is)
          ∙ hidden-in m cover c.args.pos c.index.result.now (subst (IsCoverOf m) (sym c.self.view_is) is) here;
    }
