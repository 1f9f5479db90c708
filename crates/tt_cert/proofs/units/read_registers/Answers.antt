use Rattle.std.proofs.lemmas.Result.{err_from_is_err_and}
use Rattle.tt_stream.proofs.Beginnings.{consumes_then}
use Rattle.tt_cert.specs.Reading.{cell_at, graphics_at, graphics_from, registers_at, zone_at}
use Rattle.tt_cert.proofs.Stops.{stops_first, stops_made, stops_second}
use Rattle.tt_cert.proofs.SteadyUnits.{after_cell, after_three_cells, after_two_cells, after_two_zones, after_zone, cell_steady, zone_steady}
use Rattle.tt_cert.proofs.units.read_registers.Goals as goal

pub returns-in_err-rp1-clause-beginning : goal.returns-in_err-rp1-clause-beginning
returns-in_err-rp1-clause-beginning g c = consumes_then _ _ _ c.read_cell.ensures.beginning c.read_cell-2.ensures.beginning

pub returns-in_err-rp2-clause-beginning : goal.returns-in_err-rp2-clause-beginning
returns-in_err-rp2-clause-beginning g c = consumes_then _ _ _ (consumes_then _ _ _ c.read_cell.ensures.beginning c.read_cell-2.ensures.beginning) c.read_cell-3.ensures.beginning

pub returns-in_err-zp0-clause-beginning : goal.returns-in_err-zp0-clause-beginning
returns-in_err-zp0-clause-beginning g c = consumes_then _ _ _ (consumes_then _ _ _ (consumes_then _ _ _ c.read_cell.ensures.beginning c.read_cell-2.ensures.beginning) c.read_cell-3.ensures.beginning) c.read_zone.ensures.beginning

pub returns-in_err-zp1-clause-beginning : goal.returns-in_err-zp1-clause-beginning
returns-in_err-zp1-clause-beginning g c = consumes_then _ _ _ (consumes_then _ _ _ (consumes_then _ _ _ (consumes_then _ _ _ c.read_cell.ensures.beginning c.read_cell-2.ensures.beginning) c.read_cell-3.ensures.beginning) c.read_zone.ensures.beginning) c.read_zone-2.ensures.beginning

pub returns-in_err-zp2-clause-beginning : goal.returns-in_err-zp2-clause-beginning
returns-in_err-zp2-clause-beginning g c = consumes_then _ _ _ (consumes_then _ _ _ (consumes_then _ _ _ (consumes_then _ _ _ (consumes_then _ _ _ c.read_cell.ensures.beginning c.read_cell-2.ensures.beginning) c.read_cell-3.ensures.beginning) c.read_zone.ensures.beginning) c.read_zone-2.ensures.beginning) c.read_zone-3.ensures.beginning

pub returns-in_err-loop_number-clause-beginning : goal.returns-in_err-loop_number-clause-beginning
returns-in_err-loop_number-clause-beginning g c = consumes_then _ _ _ (consumes_then _ _ _ (consumes_then _ _ _ (consumes_then _ _ _ (consumes_then _ _ _ (consumes_then _ _ _ c.read_cell.ensures.beginning c.read_cell-2.ensures.beginning) c.read_cell-3.ensures.beginning) c.read_zone.ensures.beginning) c.read_zone-2.ensures.beginning) c.read_zone-3.ensures.beginning) c.read_cell-4.ensures.beginning

pub returns-clause-beginning : goal.returns-clause-beginning
returns-clause-beginning g c = consumes_then _ _ _ (consumes_then _ _ _ (consumes_then _ _ _ (consumes_then _ _ _ (consumes_then _ _ _ (consumes_then _ _ _ c.read_cell.ensures.beginning c.read_cell-2.ensures.beginning) c.read_cell-3.ensures.beginning) c.read_zone.ensures.beginning) c.read_zone-2.ensures.beginning) c.read_zone-3.ensures.beginning) c.read_cell-4.ensures.beginning

pub returns-in_err-rp1-clause-stopped : goal.returns-in_err-rp1-clause-stopped
unfolding graphics_at
returns-in_err-rp1-clause-stopped g c =
    let p = err_from_is_err_and c.from_residual-in_err-rp1.result c.from_residual-in_err-rp1.ensures.1 in
    let e = c.in_err-rp1.field-0.0 in
    rw (p.1, p.2) (stops_made graphics_from registers_at _ _ _ e
    (stops_second cell_at (λ _. after_cell) _ _ _ _ _ _ e cell_steady c.in_ok-rp0.ensures.reads
    (stops_first cell_at (λ _. after_two_cells) _ _ _ e c.in_err-rp1.ensures.stopped)))

pub returns-in_err-rp2-clause-stopped : goal.returns-in_err-rp2-clause-stopped
unfolding graphics_at
returns-in_err-rp2-clause-stopped g c =
    let p = err_from_is_err_and c.from_residual-in_err-rp2.result c.from_residual-in_err-rp2.ensures.1 in
    let e = c.in_err-rp2.field-0.0 in
    rw (p.1, p.2) (stops_made graphics_from registers_at _ _ _ e
    (stops_second cell_at (λ _. after_cell) _ _ _ _ _ _ e cell_steady c.in_ok-rp0.ensures.reads
    (stops_second cell_at (λ _. after_two_cells) _ _ _ _ _ _ e cell_steady c.in_ok-rp1.ensures.reads
    (stops_first cell_at (λ _. after_three_cells) _ _ _ e c.in_err-rp2.ensures.stopped))))

pub returns-in_err-zp0-clause-stopped : goal.returns-in_err-zp0-clause-stopped
unfolding graphics_at
returns-in_err-zp0-clause-stopped g c =
    let p = err_from_is_err_and c.from_residual-in_err-zp0.result c.from_residual-in_err-zp0.ensures.1 in
    let e = c.in_err-zp0.field-0.0 in
    rw (p.1, p.2) (stops_made graphics_from registers_at _ _ _ e
    (stops_second cell_at (λ _. after_cell) _ _ _ _ _ _ e cell_steady c.in_ok-rp0.ensures.reads
    (stops_second cell_at (λ _. after_two_cells) _ _ _ _ _ _ e cell_steady c.in_ok-rp1.ensures.reads
    (stops_second cell_at (λ _. after_three_cells) _ _ _ _ _ _ e cell_steady c.in_ok-rp2.ensures.reads
    (stops_first zone_at (λ _. after_zone) _ _ _ e c.in_err-zp0.ensures.stopped)))))

pub returns-in_err-zp1-clause-stopped : goal.returns-in_err-zp1-clause-stopped
unfolding graphics_at
returns-in_err-zp1-clause-stopped g c =
    let p = err_from_is_err_and c.from_residual-in_err-zp1.result c.from_residual-in_err-zp1.ensures.1 in
    let e = c.in_err-zp1.field-0.0 in
    rw (p.1, p.2) (stops_made graphics_from registers_at _ _ _ e
    (stops_second cell_at (λ _. after_cell) _ _ _ _ _ _ e cell_steady c.in_ok-rp0.ensures.reads
    (stops_second cell_at (λ _. after_two_cells) _ _ _ _ _ _ e cell_steady c.in_ok-rp1.ensures.reads
    (stops_second cell_at (λ _. after_three_cells) _ _ _ _ _ _ e cell_steady c.in_ok-rp2.ensures.reads
    (stops_second zone_at (λ _. after_zone) _ _ _ _ _ _ e zone_steady c.in_ok-zp0.ensures.reads
    (stops_first zone_at (λ _. after_two_zones) _ _ _ e c.in_err-zp1.ensures.stopped))))))

pub returns-in_err-zp2-clause-stopped : goal.returns-in_err-zp2-clause-stopped
unfolding graphics_at
returns-in_err-zp2-clause-stopped g c =
    let p = err_from_is_err_and c.from_residual-in_err-zp2.result c.from_residual-in_err-zp2.ensures.1 in
    let e = c.in_err-zp2.field-0.0 in
    rw (p.1, p.2) (stops_made graphics_from registers_at _ _ _ e
    (stops_second cell_at (λ _. after_cell) _ _ _ _ _ _ e cell_steady c.in_ok-rp0.ensures.reads
    (stops_second cell_at (λ _. after_two_cells) _ _ _ _ _ _ e cell_steady c.in_ok-rp1.ensures.reads
    (stops_second cell_at (λ _. after_three_cells) _ _ _ _ _ _ e cell_steady c.in_ok-rp2.ensures.reads
    (stops_second zone_at (λ _. after_zone) _ _ _ _ _ _ e zone_steady c.in_ok-zp0.ensures.reads
    (stops_second zone_at (λ _. after_two_zones) _ _ _ _ _ _ e zone_steady c.in_ok-zp1.ensures.reads
    (stops_first zone_at (λ _. cell_at) _ _ _ e c.in_err-zp2.ensures.stopped)))))))

pub returns-in_err-loop_number-clause-stopped : goal.returns-in_err-loop_number-clause-stopped
unfolding graphics_at
returns-in_err-loop_number-clause-stopped g c =
    let p = err_from_is_err_and c.from_residual-in_err-loop_number.result c.from_residual-in_err-loop_number.ensures.1 in
    let e = c.in_err-loop_number.field-0.0 in
    rw (p.1, p.2) (stops_made graphics_from registers_at _ _ _ e
    (stops_second cell_at (λ _. after_cell) _ _ _ _ _ _ e cell_steady c.in_ok-rp0.ensures.reads
    (stops_second cell_at (λ _. after_two_cells) _ _ _ _ _ _ e cell_steady c.in_ok-rp1.ensures.reads
    (stops_second cell_at (λ _. after_three_cells) _ _ _ _ _ _ e cell_steady c.in_ok-rp2.ensures.reads
    (stops_second zone_at (λ _. after_zone) _ _ _ _ _ _ e zone_steady c.in_ok-zp0.ensures.reads
    (stops_second zone_at (λ _. after_two_zones) _ _ _ _ _ _ e zone_steady c.in_ok-zp1.ensures.reads
    (stops_second zone_at (λ _. cell_at) _ _ _ _ _ _ e zone_steady c.in_ok-zp2.ensures.reads c.in_err-loop_number.ensures.stopped)))))))
