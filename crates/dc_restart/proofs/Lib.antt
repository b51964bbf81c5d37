mod DrillRows
