use Rattle.std.proofs.Common.{◌≡◌, ◌*ℤ◌, to_z-of_z}
use Rattle.hull.proofs.Gaps.{gaps_fit}
use Rattle.hull.proofs.corner.Corner.turn.Goals as goal

pub overflow_sub-result : goal.overflow_sub-result
overflow_sub-result c =
    let px = c.past-px.ensures.small.0 in
    let py = c.past-px.ensures.small.1 in
    let qx = c.past-qx.ensures.small.0 in
    let qy = c.past-qx.ensures.small.1 in
    let left : c.product.result ≡ c.past-px.result.0 *ℤ c.past-qx.result.1 = simp (to_z-of_z, gaps_fit) at c.product.ensures.value in
    let right : c.product-2.result ≡ c.past-px.result.1 *ℤ c.past-qx.result.0 = simp (to_z-of_z, gaps_fit) at c.product-2.ensures.value in
    rw (left, right) (simp (to_z-of_z, gaps_fit) (search gaps_fit))

pub returns : goal.returns
returns c =
    let px = c.past-px.ensures.small.0 in
    let py = c.past-px.ensures.small.1 in
    let qx = c.past-qx.ensures.small.0 in
    let qy = c.past-qx.ensures.small.1 in
    let left : c.product.result ≡ c.past-px.result.0 *ℤ c.past-qx.result.1 = simp (to_z-of_z, gaps_fit) at c.product.ensures.value in
    let right : c.product-2.result ≡ c.past-px.result.1 *ℤ c.past-qx.result.0 = simp (to_z-of_z, gaps_fit) at c.product-2.ensures.value in
    record {
      value = rw (left, right) (simp (to_z-of_z, gaps_fit) (simp (c.past-px.ensures.value.0, c.past-px.ensures.value.1, c.past-qx.ensures.value.0, c.past-qx.ensures.value.1)));
    }
